use Rattle.std.proofs.Common.{◌≡◌, ℕ, ◌+◌, ◌*◌, ◌%◌, ◌^◌, arith, add-one}
use Rattle.std.proofs.lemmas.Grind.{common_steps}
use Rattle.printout.proofs.cells.RowsDisplay.fmt.Goals as goal

wrapped : (from n : ℕ) → (from + n * 16 % 2 ^ 32) % 2 ^ 32 ≡ (from + n * 16) % 2 ^ 32
wrapped from n = omega arith

pub loop-row-preserved : goal.loop-row-preserved
loop-row-preserved g c =
    rw (add-one, ← wrapped c.args.self.now.from c.loop-row.row) (grind (arith, common_steps))
