use Rattle.std.proofs.Common.{refl}
use Rattle.bus.proofs.Laws.{goes_on, ends_at, gives, hands_on}
use Rattle.instruction.specs.Formats.{string_at}
use Rattle.instruction.proofs.format.string_at.Goals as goal

pub returns-in_err-x : goal.returns-in_err-x
unfolding string_at
returns-in_err-x g c = hands_on c.from_residual.ensures.1 (ends_at _ c.in_err-x.ensures)

pub returns-in_err-length : goal.returns-in_err-length
unfolding string_at
returns-in_err-length g c = hands_on c.from_residual-in_err-length.ensures.1 (goes_on _ c.in_ok-x.ensures (ends_at _ c.in_err-length.ensures))

pub returns : goal.returns
unfolding string_at
returns g c = goes_on _ c.in_ok-x.ensures (goes_on _ c.in_ok-length.ensures (gives refl))
