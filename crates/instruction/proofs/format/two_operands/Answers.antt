use Rattle.bus.proofs.Laws.{goes_on, ends_at, hands_on}
use Rattle.instruction.specs.Formats.{two_operands}
use Rattle.instruction.proofs.format.two_operands.Goals as goal

pub returns-in_err-byte : goal.returns-in_err-byte
unfolding two_operands
returns-in_err-byte g c = hands_on c.from_residual.ensures.1 (ends_at _ c.in_err-byte.ensures)

pub returns : goal.returns
unfolding two_operands
returns g c = goes_on _ c.in_ok-byte.ensures c.two_by.ensures
