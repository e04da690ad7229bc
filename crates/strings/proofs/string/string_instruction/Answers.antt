use Rattle.bus.proofs.Laws.{goes_on, ends_at, hands_on}
use Rattle.strings.specs.Strings.{string_instruction}
use Rattle.strings.proofs.string.string_instruction.Goals as goal

pub returns-in_err-source_length : goal.returns-in_err-source_length
unfolding string_instruction
returns-in_err-source_length g c = hands_on c.from_residual.ensures.1 (ends_at _ c.in_err-source_length.ensures)

pub returns-in_err-destination_length : goal.returns-in_err-destination_length
unfolding string_instruction
returns-in_err-destination_length g c =
    hands_on c.from_residual-in_err-destination_length.ensures.1
    (goes_on _ c.in_ok-source_length.ensures (ends_at _ c.in_err-destination_length.ensures))

pub returns-in_err-from : goal.returns-in_err-from
unfolding string_instruction
returns-in_err-from g c =
    hands_on c.from_residual-in_err-from.ensures.1
    (goes_on _ c.in_ok-source_length.ensures
    (goes_on _ c.in_ok-destination_length.ensures (ends_at _ (rw c.bytes.ensures at c.in_err-from.ensures))))

pub returns-in_err-to : goal.returns-in_err-to
unfolding string_instruction
returns-in_err-to g c =
    hands_on c.from_residual-in_err-to.ensures.1
    (goes_on _ c.in_ok-source_length.ensures
    (goes_on _ c.in_ok-destination_length.ensures
    (goes_on _ (rw c.bytes.ensures at c.in_ok-from.ensures) (ends_at _ (rw c.bytes-2.ensures at c.in_err-to.ensures)))))

pub returns : goal.returns
unfolding string_instruction
returns g c =
    goes_on _ c.in_ok-source_length.ensures
    (goes_on _ c.in_ok-destination_length.ensures
    (goes_on _ (rw c.bytes.ensures at c.in_ok-from.ensures)
    (goes_on _ (rw c.bytes-2.ensures at c.in_ok-to.ensures) (rw (c.address.ensures, c.address-2.ensures) at c.worked.ensures))))
