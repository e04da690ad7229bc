use Rattle.bus.proofs.Room.{room_for}
use Rattle.bus.proofs.theorems.bounds_suffice.Goals as goal

pub returns : goal.returns
returns g c = λ n limit p w t h e l. let r = room_for n limit p w t h e l in (r.0, r.1.stores)
