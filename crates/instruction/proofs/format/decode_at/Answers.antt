use Rattle.bus.proofs.Laws.{goes_on, ends_at, hands_on}
use Rattle.instruction.specs.Formats.{decode}
use Rattle.instruction.proofs.Permits.{picks}
use Rattle.instruction.proofs.format.decode_at.Goals as goal

pub returns-in_err-opcode : goal.returns-in_err-opcode
unfolding decode
returns-in_err-opcode g c = hands_on c.from_residual.ensures.1 (ends_at _ c.in_err-opcode.ensures)

pub returns-in_err-entry : goal.returns-in_err-entry
unfolding decode
returns-in_err-entry g c = hands_on c.from_residual-in_err-entry.ensures.1 (goes_on _ c.in_ok-opcode.ensures (ends_at _ (picks _ c.look_up.ensures c.in_err-entry.ensures.value)))

pub returns : goal.returns
unfolding decode
returns g c = goes_on _ c.in_ok-opcode.ensures (goes_on _ (picks _ c.look_up.ensures c.in_ok-entry.ensures.value) c.by_entry.ensures)
