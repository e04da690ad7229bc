use Rattle.std.proofs.Common.{sym, refl}
use Rattle.bus.proofs.Laws.{goes_on, ends_at, gives, hands_on, by_case}
use Rattle.instruction.specs.Formats.{two_modes}
use Rattle.instruction.specs.Decode.{operand_at}
use Rattle.instruction.proofs.format.two_modes.Goals as goal

pub returns-in_err-x : goal.returns-in_err-x
unfolding two_modes
returns-in_err-x g c = hands_on c.from_residual.ensures.1 (ends_at _ (by_case (operand_at _ _ _) (sym c.first_access.ensures) c.in_err-x.ensures))

pub returns-in_err-y : goal.returns-in_err-y
unfolding two_modes
returns-in_err-y g c = hands_on c.from_residual-in_err-y.ensures.1 (goes_on _ (by_case (operand_at _ _ _) (sym c.first_access.ensures) c.in_ok-x.ensures) (ends_at _ (by_case (operand_at _ _ _) (sym c.second_access.ensures) c.in_err-y.ensures)))

pub returns : goal.returns
unfolding two_modes
returns g c = goes_on _ (by_case (operand_at _ _ _) (sym c.first_access.ensures) c.in_ok-x.ensures) (goes_on _ (by_case (operand_at _ _ _) (sym c.second_access.ensures) c.in_ok-y.ensures) (gives refl))
