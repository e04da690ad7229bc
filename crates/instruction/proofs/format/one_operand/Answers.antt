use Rattle.std.proofs.Common.{sym, refl}
use Rattle.bus.proofs.Laws.{goes_on, ends_at, gives, hands_on, by_case}
use Rattle.instruction.specs.Formats.{one_operand}
use Rattle.instruction.specs.Decode.{operand_at}
use Rattle.instruction.proofs.format.one_operand.Goals as goal

pub returns-in_err-x : goal.returns-in_err-x
unfolding one_operand
returns-in_err-x g c = hands_on c.from_residual.ensures.1 (ends_at _ (by_case (operand_at _ _ _) (sym c.access.ensures) c.in_err-x.ensures))

pub returns : goal.returns
unfolding one_operand
returns g c = goes_on _ (by_case (operand_at _ _ _) (sym c.access.ensures) c.in_ok-x.ensures) (gives refl)
