use Rattle.bus.proofs.Laws.{goes_on, ends_at, hands_on}
use Rattle.execute.specs.Step.{one_step}
use Rattle.execute.proofs.steps.step.Goals as goal

pub returns-in_err-instruction : goal.returns-in_err-instruction
unfolding one_step
returns-in_err-instruction g c = hands_on c.from_residual.ensures.1 (ends_at _ c.in_err-instruction.ensures)

pub returns : goal.returns
unfolding one_step
returns g c = goes_on _ c.in_ok-instruction.ensures c.execute.ensures
