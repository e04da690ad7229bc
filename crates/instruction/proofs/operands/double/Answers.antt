use Rattle.std.proofs.Common.{◌≡◌, w32, to_z, of_z, rules}
use Rattle.bus.proofs.Laws.{goes_on, ends_at, gives, hands_on}
use Rattle.instruction.specs.Decode.{double_at}
use Rattle.instruction.proofs.operands.double.Goals as goal

pub returns-in_err-inner : goal.returns-in_err-inner
unfolding double_at
returns-in_err-inner g c = hands_on c.from_residual.ensures.1 (ends_at _ c.in_err-inner.ensures)

pub returns-in_err-outer : goal.returns-in_err-outer
unfolding double_at
returns-in_err-outer g c = hands_on c.from_residual-in_err-outer.ensures.1 (goes_on _ c.in_ok-inner.ensures (ends_at _ c.in_err-outer.ensures))

pub returns : goal.returns
unfolding double_at
returns g c =
    let i : to_z w32 (of_z w32 c.in_ok-inner.inner.value) ≡ c.in_ok-inner.inner.value = search rules in
    let o : to_z w32 (of_z w32 c.in_ok-outer.outer.value) ≡ c.in_ok-outer.outer.value = search rules in
    goes_on _ c.in_ok-inner.ensures (goes_on _ c.in_ok-outer.ensures (gives (cc)))
