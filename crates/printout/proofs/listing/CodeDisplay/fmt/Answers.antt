use Rattle.std.proofs.Common.{◌≡◌, ℕ, ◌+◌, ◌*◌, [], ◌∷◌, ◌++◌, replicate, ap, sym, ◌∙◌, arith}
use Rattle.std.proofs.lemmas.List.{replicate-append-replicate}
use Rattle.std.proofs.lemmas.Grind.{common_steps}
use Rattle.printout.proofs.listing.CodeDisplay.fmt.Goals as goal

-- one byte more is missing: three spaces more
three_more : (n : ℕ) → replicate {A = ℕ} (3 * (n + 1)) 32 ≡ replicate (3 * n) 32 ++ (32 ∷ 32 ∷ 32 ∷ [])
three_more n = sym (replicate-append-replicate {A = ℕ} (3 * n) 3 32 ∙ ap (λ k. replicate {A = ℕ} k 32) (omega arith))

pub loop-preserved : goal.loop-preserved
loop-preserved g c = rw (three_more c.loop.counter) (grind (arith, common_steps))
