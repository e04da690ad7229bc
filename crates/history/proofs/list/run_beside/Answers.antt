use Rattle.std.proofs.Common.{arith}
use Rattle.history.proofs.Parts.{on_lent}
use Rattle.history.proofs.list.run_beside.Goals as goal

pub returns : goal.returns
returns g c = on_lent _ _ _ c.args.lines _ _ _ (omega arith) (omega arith) c.run.ensures
