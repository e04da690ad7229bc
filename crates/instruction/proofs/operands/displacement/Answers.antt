use Rattle.std.proofs.Common.{◌≡◌, w32, to_z, of_z, rules}
use Rattle.bus.proofs.Laws.{goes_on, ends_at, gives, hands_on}
use Rattle.instruction.specs.Decode.{displacement}
use Rattle.instruction.proofs.operands.displacement.Goals as goal

pub returns-in_err-number : goal.returns-in_err-number
unfolding displacement
returns-in_err-number g c = hands_on c.from_residual.ensures.1 (ends_at _ c.in_err-number.ensures)

pub returns : goal.returns
unfolding displacement
returns g c =
    let e : to_z w32 (of_z w32 c.sign_extended.result) ≡ c.sign_extended.result = search rules in
    goes_on _ c.in_ok-number.ensures (gives (cc))
