use Rattle.std.proofs.Common.{sym}
use Rattle.bus.proofs.Laws.{goes_on, ends_at, gives, hands_on}
use Rattle.execute.specs.One.{popping}
use Rattle.execute.proofs.one.popping.Goals as goal

pub returns-in_err-raised : goal.returns-in_err-raised
unfolding popping
returns-in_err-raised g c = hands_on c.from_residual.ensures.1 (ends_at _ c.in_err-raised.ensures)

pub returns-in_err-found : goal.returns-in_err-found
unfolding popping
returns-in_err-found g c = hands_on c.from_residual-in_err-found.ensures.1 (goes_on _ c.in_ok-raised.ensures (ends_at _ c.in_err-found.ensures))

pub returns-in_err-done : goal.returns-in_err-done
unfolding popping
returns-in_err-done g c =
    hands_on c.from_residual-in_err-done.ensures.1
    (goes_on _ c.in_ok-raised.ensures
    (goes_on _ c.in_ok-found.ensures
    (ends_at _ (rw c.from.ensures at c.in_err-done.ensures))))

pub returns : goal.returns
unfolding popping
returns g c =
    goes_on _ c.in_ok-raised.ensures
    (goes_on _ c.in_ok-found.ensures
    (goes_on _ (rw c.from.ensures at c.in_ok-done.ensures) (gives (sym c.gone_on.ensures))))
