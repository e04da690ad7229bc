use Rattle.bus.proofs.Laws.{goes_on, ends_at, gives, hands_on}
use Rattle.instruction.specs.Decode.{immediate_at}
use Rattle.instruction.proofs.operands.immediate.Goals as goal

pub returns-in_err-number : goal.returns-in_err-number
unfolding immediate_at
returns-in_err-number g c = hands_on c.from_residual.ensures.1 (ends_at _ c.in_err-number.ensures)

pub returns : goal.returns
unfolding immediate_at
returns g c = goes_on _ c.in_ok-number.ensures (gives (cc))
