use mathlib.Core.Path.{ap, sym, ◌∙◌}
use Rattle.bus.proofs.Laws.{goes_on, ends_at, gives, hands_on}
use Rattle.processor.specs.Registers.{gone_on}
use Rattle.execute.specs.One.{calling}
use Rattle.execute.proofs.one.calling.Goals as goal

pub returns-in_err-found : goal.returns-in_err-found
unfolding calling
returns-in_err-found g c = hands_on c.from_residual.ensures.1 (ends_at _ c.in_err-found.ensures)

pub returns-in_err-done : goal.returns-in_err-done
unfolding calling
returns-in_err-done g c = hands_on c.from_residual-in_err-done.ensures.1 (goes_on _ c.in_ok-found.ensures (ends_at _ (rw c.from.ensures at c.in_err-done.ensures)))

pub returns : goal.returns
unfolding calling
returns g c = goes_on _ c.in_ok-found.ensures (goes_on _ (rw c.from.ensures at c.in_ok-done.ensures) (gives (sym (c.gone_on.ensures ∙ ap (gone_on c.in_ok-done.done c.args.cpu.flags) c.address-target.ensures))))
