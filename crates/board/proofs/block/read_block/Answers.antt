use Rattle.std.proofs.Common.{None, arith, rules}
use Rattle.std.proofs.lemmas.List.FromFn.{fill_by_all}
use Rattle.board.proofs.block.read_block.Goals as goal

pub returns : goal.returns
returns g c = fill_by_all _ c.loop-cell.cells _ None (search rules) (λ k h. c.loop-cell.invariant.1 k (omega arith))
