use Rattle.std.proofs.Common.{sym}
use Rattle.bus.proofs.Laws.{goes_on, ends_at, gives, hands_on}
use Rattle.strings.specs.Strings.{padded}
use Rattle.strings.proofs.string.Transfer.padded.Goals as goal

pub returns-in_err-copy : goal.returns-in_err-copy
unfolding padded
returns-in_err-copy g c = rw (← c.shorter-count.ensures) (hands_on c.from_residual.ensures.1 (ends_at _ c.in_err-copy.ensures))

pub returns-in_err-fill : goal.returns-in_err-fill
unfolding padded
returns-in_err-fill g c =
    rw (← c.shorter-count.ensures)
    (hands_on c.from_residual-in_err-fill.ensures.1
    (goes_on _ c.in_ok-copy.ensures (ends_at _ (rw (c.character.ensures, c.read.ensures) at c.in_err-fill.ensures))))

pub returns : goal.returns
unfolding padded
returns g c =
    rw (← c.shorter-count.ensures)
    (goes_on _ c.in_ok-copy.ensures
    (goes_on _ (rw (c.character.ensures, c.read.ensures) at c.in_ok-fill.ensures) (gives (sym c.done.ensures))))
