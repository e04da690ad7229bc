use Rattle.bus.proofs.Trace.{replays}
use Rattle.bus.proofs.theorems.sheets_tell_all.Goals as goal

pub returns : goal.returns
returns g c = λ p w t f h. replays f p w t h
