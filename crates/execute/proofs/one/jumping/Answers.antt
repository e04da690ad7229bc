use mathlib.Core.Path.{ap, sym, ◌∙◌}
use Rattle.bus.proofs.Laws.{goes_on, ends_at, gives, hands_on}
use Rattle.processor.specs.Registers.{gone_on}
use Rattle.execute.specs.One.{jumping}
use Rattle.execute.proofs.one.jumping.Goals as goal

pub returns-in_err-found : goal.returns-in_err-found
unfolding jumping
returns-in_err-found g c = hands_on c.from_residual.ensures.1 (ends_at _ c.in_err-found.ensures)

pub returns : goal.returns
unfolding jumping
returns g c = goes_on _ c.in_ok-found.ensures (gives (sym (c.gone_on.ensures ∙ ap (gone_on c.in_ok-found.found.cpu c.args.cpu.flags) c.address-target.ensures)))
