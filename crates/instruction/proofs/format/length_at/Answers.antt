use Rattle.bus.proofs.Laws.{goes_on, ends_at, hands_on, answers}
use Rattle.instruction.specs.Formats.{length_at}
use Rattle.instruction.proofs.format.length_at.Goals as goal

pub returns-in_err-byte : goal.returns-in_err-byte
unfolding length_at
returns-in_err-byte g c = hands_on c.from_residual.ensures.1 (ends_at _ c.in_err-byte.ensures)

pub returns : goal.returns
unfolding length_at
returns g c = goes_on _ c.in_ok-byte.ensures (answers _ _ c.length_of.ensures)
