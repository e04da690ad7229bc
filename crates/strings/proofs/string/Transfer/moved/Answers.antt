use Rattle.std.proofs.Common.{sym}
use Rattle.bus.proofs.Laws.{goes_on, ends_at, gives, hands_on}
use Rattle.strings.specs.Strings.{moved}
use Rattle.strings.proofs.string.Transfer.moved.Goals as goal

pub returns-in_err-copy : goal.returns-in_err-copy
unfolding moved
returns-in_err-copy g c = rw (← c.shorter-count.ensures) (hands_on c.from_residual.ensures.1 (ends_at _ c.in_err-copy.ensures))

pub returns : goal.returns
unfolding moved
returns g c = rw (← c.shorter-count.ensures) (goes_on _ c.in_ok-copy.ensures (gives (sym c.done.ensures)))
