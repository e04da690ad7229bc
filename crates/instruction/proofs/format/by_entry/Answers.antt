use Rattle.std.proofs.Common.{◌≡◌, refl, w32, to_z, of_z, rules}
use Rattle.bus.proofs.Laws.{goes_on, ends_at, gives, hands_on, by_case}
use Rattle.instruction.specs.Formats.{by_entry}
use Rattle.instruction.proofs.format.by_entry.Goals as goal

pub returns-in-Two : goal.returns-in-Two
unfolding by_entry
returns-in-Two g c = by_case (by_entry c.args.pc) c.in-Two.is c.two_operands.ensures

pub returns-in-One : goal.returns-in-One
unfolding by_entry
returns-in-One g c = by_case (by_entry c.args.pc) c.in-One.is c.one_operand.ensures

pub returns-in_err-d-in-Branch : goal.returns-in_err-d-in-Branch
unfolding by_entry
returns-in_err-d-in-Branch g c = hands_on c.from_residual.ensures.1 (by_case (by_entry c.args.pc) c.in-Branch.is (ends_at _ c.in_err-d-in-Branch.ensures))

pub returns-in_ok-d-in-Branch : goal.returns-in_ok-d-in-Branch
unfolding by_entry
returns-in_ok-d-in-Branch g c =
    let e : to_z w32 (of_z w32 c.in_ok-d-in-Branch.d.value) ≡ c.in_ok-d-in-Branch.d.value = search rules in
    by_case (by_entry c.args.pc) c.in-Branch.is (goes_on _ c.in_ok-d-in-Branch.ensures (gives (cc)))

pub returns-in_err-d-in-Bsr : goal.returns-in_err-d-in-Bsr
unfolding by_entry
returns-in_err-d-in-Bsr g c = hands_on c.from_residual-in_err-d-in-Bsr.ensures.1 (by_case (by_entry c.args.pc) c.in-Bsr.is (ends_at _ c.in_err-d-in-Bsr.ensures))

pub returns-in_ok-d-in-Bsr : goal.returns-in_ok-d-in-Bsr
unfolding by_entry
returns-in_ok-d-in-Bsr g c =
    let e : to_z w32 (of_z w32 c.in_ok-d-in-Bsr.d.value) ≡ c.in_ok-d-in-Bsr.d.value = search rules in
    by_case (by_entry c.args.pc) c.in-Bsr.is (goes_on _ c.in_ok-d-in-Bsr.ensures (gives (cc)))

pub returns-in-Rsr : goal.returns-in-Rsr
unfolding by_entry
returns-in-Rsr g c = by_case (by_entry c.args.pc) c.in-Rsr.is (gives refl)

pub returns-in-Nop : goal.returns-in-Nop
unfolding by_entry
returns-in-Nop g c = by_case (by_entry c.args.pc) c.in-Nop.is (gives refl)

pub returns-in-Strings : goal.returns-in-Strings
unfolding by_entry
returns-in-Strings g c = by_case (by_entry c.args.pc) c.in-Strings.is c.string_instruction.ensures
