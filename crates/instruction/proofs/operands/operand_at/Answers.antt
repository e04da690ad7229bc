use Rattle.bus.proofs.Laws.{goes_on, ends_at, hands_on}
use Rattle.instruction.specs.Decode.{operand_at}
use Rattle.instruction.proofs.Permits.{picks}
use Rattle.instruction.proofs.operands.operand_at.Goals as goal

pub returns-in_err-byte : goal.returns-in_err-byte
unfolding operand_at
returns-in_err-byte g c = hands_on c.from_residual.ensures.1 (ends_at _ c.in_err-byte.ensures)

pub returns-in_err-mode : goal.returns-in_err-mode
unfolding operand_at
returns-in_err-mode g c = hands_on c.from_residual-in_err-mode.ensures.1 (goes_on _ c.in_ok-byte.ensures (ends_at _ (picks _ c.mode_of.ensures c.in_err-mode.ensures.value)))

pub returns : goal.returns
unfolding operand_at
returns g c = goes_on _ c.in_ok-byte.ensures (goes_on _ (picks _ c.mode_of.ensures c.in_ok-mode.ensures.value) c.by_mode.ensures)
