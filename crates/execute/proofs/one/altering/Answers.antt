use Rattle.std.proofs.Common.{ap, sym, ◌∙◌}
use Rattle.bus.proofs.Laws.{goes_on, ends_at, gives, hands_on}
use Rattle.processor.specs.Registers.{gone_on}
use Rattle.execute.specs.One.{altering}
use Rattle.execute.proofs.one.altering.Goals as goal

pub returns-in_err-found : goal.returns-in_err-found
unfolding altering
returns-in_err-found g c = hands_on c.from_residual.ensures.1 (ends_at _ c.in_err-found.ensures)

pub returns-in_err-number : goal.returns-in_err-number
unfolding altering
returns-in_err-number g c =
    hands_on c.from_residual-in_err-number.ensures.1
    (goes_on _ c.in_ok-found.ensures (ends_at _ (rw c.access-access.ensures at c.in_err-number.ensures)))

pub returns-in_err-done : goal.returns-in_err-done
unfolding altering
returns-in_err-done g c =
    hands_on c.from_residual-in_err-done.ensures.1
    (goes_on _ c.in_ok-found.ensures
    (goes_on _ (rw c.access-access.ensures at c.in_ok-number.ensures)
    (ends_at _ (rw (c.access-access.ensures, ap (λ o. o.number) c.one_result-outcome.ensures) at c.in_err-done.ensures))))

pub returns : goal.returns
unfolding altering
returns g c =
    goes_on _ c.in_ok-found.ensures
    (goes_on _ (rw c.access-access.ensures at c.in_ok-number.ensures)
    (goes_on _ (rw (c.access-access.ensures, ap (λ o. o.number) c.one_result-outcome.ensures) at c.in_ok-done.ensures)
    (gives (sym (c.gone_on.ensures ∙ ap (λ o. gone_on c.in_ok-done.done o.flags c.args.next) c.one_result-outcome.ensures)))))
