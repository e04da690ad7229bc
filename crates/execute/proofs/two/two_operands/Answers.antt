use Rattle.std.proofs.Common.{ap, sym, ◌∙◌}
use Rattle.bus.proofs.Laws.{goes_on, ends_at, gives, hands_on}
use Rattle.processor.specs.Registers.{gone_on}
use Rattle.execute.specs.Two.{two_operands}
use Rattle.execute.proofs.two.two_operands.Goals as goal

pub returns-in_err-from : goal.returns-in_err-from
unfolding two_operands
returns-in_err-from g c = hands_on c.from_residual.ensures.1 (ends_at _ c.in_err-from.ensures)

pub returns-in_err-first : goal.returns-in_err-first
unfolding two_operands
returns-in_err-first g c =
    hands_on c.from_residual-in_err-first.ensures.1
    (goes_on _ c.in_ok-from.ensures (ends_at _ (rw c.first_access.ensures at c.in_err-first.ensures)))

pub returns-in_err-to : goal.returns-in_err-to
unfolding two_operands
returns-in_err-to g c =
    hands_on c.from_residual-in_err-to.ensures.1
    (goes_on _ c.in_ok-from.ensures
    (goes_on _ (rw c.first_access.ensures at c.in_ok-first.ensures) (ends_at _ c.in_err-to.ensures)))

pub returns-in_err-second : goal.returns-in_err-second
unfolding two_operands
returns-in_err-second g c =
    hands_on c.from_residual-in_err-second.ensures.1
    (goes_on _ c.in_ok-from.ensures
    (goes_on _ (rw c.first_access.ensures at c.in_ok-first.ensures)
    (goes_on _ c.in_ok-to.ensures (ends_at _ (rw c.second_access-access.ensures at c.in_err-second.ensures)))))

pub returns-in_err-done : goal.returns-in_err-done
unfolding two_operands
returns-in_err-done g c =
    hands_on c.from_residual-in_err-done.ensures.1
    (goes_on _ c.in_ok-from.ensures
    (goes_on _ (rw c.first_access.ensures at c.in_ok-first.ensures)
    (goes_on _ c.in_ok-to.ensures
    (goes_on _ (rw c.second_access-access.ensures at c.in_ok-second.ensures)
    (ends_at _ (rw (c.second_access-access.ensures, ap (λ o. o.number) c.result-outcome.ensures) at c.in_err-done.ensures))))))

pub returns : goal.returns
unfolding two_operands
returns g c =
    goes_on _ c.in_ok-from.ensures
    (goes_on _ (rw c.first_access.ensures at c.in_ok-first.ensures)
    (goes_on _ c.in_ok-to.ensures
    (goes_on _ (rw c.second_access-access.ensures at c.in_ok-second.ensures)
    (goes_on _ (rw (c.second_access-access.ensures, ap (λ o. o.number) c.result-outcome.ensures) at c.in_ok-done.ensures)
    (gives (sym (c.gone_on.ensures ∙ ap (λ o. gone_on c.in_ok-done.done o.flags c.args.next) c.result-outcome.ensures)))))))
