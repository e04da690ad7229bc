use Rattle.history.proofs.Stands.{stands}
use Rattle.history.proofs.vouch.closed_vouched.Goals as goal

pub returns : goal.returns
returns g c = λ f h _. stands _ f h
