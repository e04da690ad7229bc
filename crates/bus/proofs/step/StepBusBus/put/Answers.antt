use Rattle.std.proofs.Common.{refl}
use Rattle.bus.proofs.Laws.{now_on}
use Rattle.bus.proofs.Single.{put_joined}
use Rattle.bus.proofs.step.StepBusBus.put.Goals as goal

pub returns : goal.returns
returns g c = put_joined _ _ _ c.put.ensures.joined c.put.ensures.after refl refl refl now_on
