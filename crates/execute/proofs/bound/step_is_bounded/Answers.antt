use Rattle.execute.proofs.Bounds.{step_bounded}
use Rattle.execute.proofs.bound.step_is_bounded.Goals as goal

pub returns : goal.returns
returns c = step_bounded c.args.cpu
