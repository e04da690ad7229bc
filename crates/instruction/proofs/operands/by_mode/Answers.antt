use Rattle.std.proofs.Common.{sym, refl, ap}
use Rattle.board.specs.Block.{above}
use Rattle.bus.proofs.Laws.{goes_on, ends_at, gives, hands_on, by_case}
use Rattle.instruction.specs.Decode.{part, by_mode}
use Rattle.instruction.specs.declared.operand.Operand.TheVariants.{Immediate}
use Rattle.instruction.proofs.Permits.{permits}
use Rattle.instruction.proofs.operands.by_mode.Goals as goal

pub returns-in_err-located-in-At : goal.returns-in_err-located-in-At
unfolding by_mode
returns-in_err-located-in-At g c = hands_on c.from_residual.ensures.1 (by_case (by_mode c.args.at c.args.size c.args.access) c.in-At.is (ends_at _ c.in_err-located-in-At.ensures))

pub returns-in_ok-located-in-At : goal.returns-in_ok-located-in-At
unfolding by_mode
returns-in_ok-located-in-At g c = by_case (by_mode c.args.at c.args.size c.args.access) c.in-At.is (goes_on _ c.in_ok-located-in-At.ensures (gives refl))

pub returns-in_err-permit-in-Quick : goal.returns-in_err-permit-in-Quick
unfolding by_mode
returns-in_err-permit-in-Quick g c = hands_on c.from_residual-in_err-permit-in-Quick.ensures.1 (by_case (by_mode c.args.at c.args.size c.args.access) c.in-Quick.is (ends_at _ (permits _ c.immediate_verdict.ensures c.in_err-permit-in-Quick.ensures)))

pub returns-in_ok-permit-in-Quick : goal.returns-in_ok-permit-in-Quick
unfolding by_mode
returns-in_ok-permit-in-Quick g c = by_case (by_mode c.args.at c.args.size c.args.access) c.in-Quick.is (goes_on _ (permits _ c.immediate_verdict.ensures c.in_ok-permit-in-Quick.ensures) (gives (ap (λ n. part (Immediate n) (above c.args.at 1)) (sym c.from.ensures))))

pub returns-in_err-permit-in-Immediate : goal.returns-in_err-permit-in-Immediate
unfolding by_mode
returns-in_err-permit-in-Immediate g c = hands_on c.from_residual-in_err-permit-in-Immediate.ensures.1 (by_case (by_mode c.args.at c.args.size c.args.access) c.in-Immediate.is (ends_at _ (permits _ c.immediate_verdict-in-Immediate.ensures c.in_err-permit-in-Immediate.ensures)))

pub returns-in_ok-permit-in-Immediate : goal.returns-in_ok-permit-in-Immediate
unfolding by_mode
returns-in_ok-permit-in-Immediate g c = by_case (by_mode c.args.at c.args.size c.args.access) c.in-Immediate.is (goes_on _ (permits _ c.immediate_verdict-in-Immediate.ensures c.in_ok-permit-in-Immediate.ensures) c.immediate.ensures)

pub returns-in_err-permit-in-Register : goal.returns-in_err-permit-in-Register
unfolding by_mode
returns-in_err-permit-in-Register g c = hands_on c.from_residual-in_err-permit-in-Register.ensures.1 (by_case (by_mode c.args.at c.args.size c.args.access) c.in-Register.is (ends_at _ (permits _ c.register_verdict.ensures c.in_err-permit-in-Register.ensures)))

pub returns-in_ok-permit-in-Register : goal.returns-in_ok-permit-in-Register
unfolding by_mode
returns-in_ok-permit-in-Register g c = by_case (by_mode c.args.at c.args.size c.args.access) c.in-Register.is (goes_on _ (permits _ c.register_verdict.ensures c.in_ok-permit-in-Register.ensures) (gives refl))

pub returns-in-Increment : goal.returns-in-Increment
unfolding by_mode
returns-in-Increment g c = by_case (by_mode c.args.at c.args.size c.args.access) c.in-Increment.is (gives refl)

pub returns-in-Decrement : goal.returns-in-Decrement
unfolding by_mode
returns-in-Decrement g c = by_case (by_mode c.args.at c.args.size c.args.access) c.in-Decrement.is (gives refl)

pub returns-in-Double : goal.returns-in-Double
unfolding by_mode
returns-in-Double g c = by_case (by_mode c.args.at c.args.size c.args.access) c.in-Double.is c.double.ensures

pub returns-in-Index : goal.returns-in-Index
unfolding by_mode
returns-in-Index g c = by_case (by_mode c.args.at c.args.size c.args.access) c.in-Index.is c.indexed.ensures
