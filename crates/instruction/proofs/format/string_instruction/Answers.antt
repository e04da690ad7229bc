use Rattle.std.proofs.Common.{refl}
use Rattle.bus.proofs.Laws.{goes_on, ends_at, gives, hands_on}
use Rattle.instruction.specs.Formats.{string_instruction, strings_by}
use Rattle.instruction.proofs.Permits.{picks}
use Rattle.instruction.proofs.format.string_instruction.Goals as goal

pub returns-in_err-byte : goal.returns-in_err-byte
unfolding string_instruction
returns-in_err-byte g c = hands_on c.from_residual.ensures.1 (ends_at _ c.in_err-byte.ensures)

pub returns-in_err-operation : goal.returns-in_err-operation
unfolding string_instruction
returns-in_err-operation g c = hands_on c.from_residual-in_err-operation.ensures.1 (goes_on _ c.in_ok-byte.ensures (ends_at _ (picks _ c.string_operation.ensures c.in_err-operation.ensures.value)))

pub returns-in_err-x : goal.returns-in_err-x
unfolding string_instruction strings_by
returns-in_err-x g c = hands_on c.from_residual-in_err-x.ensures.1 (goes_on _ c.in_ok-byte.ensures (goes_on _ (picks _ c.string_operation.ensures c.in_ok-operation.ensures.value) (ends_at _ c.in_err-x.ensures)))

pub returns-in_err-y : goal.returns-in_err-y
unfolding string_instruction strings_by
returns-in_err-y g c = hands_on c.from_residual-in_err-y.ensures.1 (goes_on _ c.in_ok-byte.ensures (goes_on _ (picks _ c.string_operation.ensures c.in_ok-operation.ensures.value) (goes_on _ c.in_ok-x.ensures (ends_at _ c.in_err-y.ensures))))

pub returns : goal.returns
unfolding string_instruction strings_by
returns g c = goes_on _ c.in_ok-byte.ensures (goes_on _ (picks _ c.string_operation.ensures c.in_ok-operation.ensures.value) (goes_on _ c.in_ok-x.ensures (goes_on _ c.in_ok-y.ensures (gives refl))))
