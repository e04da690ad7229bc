use Rattle.std.proofs.Common.{sym}
use Rattle.bus.proofs.Laws.{goes_on, ends_at, gives, hands_on}
use Rattle.execute.specs.One.{returning}
use Rattle.execute.proofs.one.returning.Goals as goal

pub returns-in_err-raised : goal.returns-in_err-raised
unfolding returning
returns-in_err-raised g c = hands_on c.from_residual.ensures.1 (ends_at _ c.in_err-raised.ensures)

pub returns : goal.returns
unfolding returning
returns g c = goes_on _ c.in_ok-raised.ensures (gives (sym c.gone_on.ensures))
