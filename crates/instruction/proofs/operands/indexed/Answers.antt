use Rattle.std.proofs.Common.{refl}
use Rattle.bus.proofs.Laws.{goes_on, ends_at, gives, hands_on}
use Rattle.instruction.specs.Decode.{indexed_at}
use Rattle.instruction.proofs.Permits.{picks}
use Rattle.instruction.proofs.operands.indexed.Goals as goal

pub returns-in_err-byte : goal.returns-in_err-byte
unfolding indexed_at
returns-in_err-byte g c = hands_on c.from_residual.ensures.1 (ends_at _ c.in_err-byte.ensures)

pub returns-in_err-shape : goal.returns-in_err-shape
unfolding indexed_at
returns-in_err-shape g c = hands_on c.from_residual-in_err-shape.ensures.1 (goes_on _ c.in_ok-byte.ensures (ends_at _ (picks _ c.indexable.ensures c.in_err-shape.ensures.value)))

pub returns-in_err-located : goal.returns-in_err-located
unfolding indexed_at
returns-in_err-located g c = hands_on c.from_residual-in_err-located.ensures.1 (goes_on _ c.in_ok-byte.ensures (goes_on _ (picks _ c.indexable.ensures c.in_ok-shape.ensures.value) (ends_at _ c.in_err-located.ensures)))

pub returns : goal.returns
unfolding indexed_at
returns g c = goes_on _ c.in_ok-byte.ensures (goes_on _ (picks _ c.indexable.ensures c.in_ok-shape.ensures.value) (goes_on _ c.in_ok-located.ensures (gives refl)))
