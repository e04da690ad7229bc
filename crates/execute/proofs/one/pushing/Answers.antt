use mathlib.Core.Path.{sym}
use Rattle.bus.proofs.Laws.{goes_on, ends_at, gives, hands_on}
use Rattle.execute.specs.One.{pushing}
use Rattle.execute.proofs.one.pushing.Goals as goal

pub returns-in_err-found : goal.returns-in_err-found
unfolding pushing
returns-in_err-found g c = hands_on c.from_residual.ensures.1 (ends_at _ c.in_err-found.ensures)

pub returns-in_err-word : goal.returns-in_err-word
unfolding pushing
returns-in_err-word g c = hands_on c.from_residual-in_err-word.ensures.1 (goes_on _ c.in_ok-found.ensures (ends_at _ c.in_err-word.ensures))

pub returns-in_err-done : goal.returns-in_err-done
unfolding pushing
returns-in_err-done g c = hands_on c.from_residual-in_err-done.ensures.1 (goes_on _ c.in_ok-found.ensures (goes_on _ c.in_ok-word.ensures (ends_at _ c.in_err-done.ensures)))

pub returns : goal.returns
unfolding pushing
returns g c = goes_on _ c.in_ok-found.ensures (goes_on _ c.in_ok-word.ensures (goes_on _ c.in_ok-done.ensures (gives (sym c.gone_on.ensures))))
