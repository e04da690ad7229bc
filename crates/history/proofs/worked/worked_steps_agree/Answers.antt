use Rattle.history.proofs.WorkedSteps.{all_agree}
use Rattle.history.proofs.worked.worked_steps_agree.Goals as goal

pub returns : goal.returns
returns c = all_agree
