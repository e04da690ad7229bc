use Rattle.std.proofs.Common.{◌≡◌, refl, w32, to_z, of_z, rules}
use Rattle.bus.proofs.Laws.{goes_on, ends_at, gives, hands_on, by_case}
use Rattle.instruction.specs.Decode.{shape_at}
use Rattle.instruction.proofs.operands.locate.Goals as goal

pub returns-in-Indirect : goal.returns-in-Indirect
unfolding shape_at
returns-in-Indirect g c = by_case (shape_at c.args.at) c.in-Indirect.is (gives refl)

pub returns-in_err-d-in-Displaced : goal.returns-in_err-d-in-Displaced
unfolding shape_at
returns-in_err-d-in-Displaced g c = hands_on c.from_residual.ensures.1 (by_case (shape_at c.args.at) c.in-Displaced.is (ends_at _ c.in_err-d-in-Displaced.ensures))

pub returns-in_err-e-in-Deferred : goal.returns-in_err-e-in-Deferred
unfolding shape_at
returns-in_err-e-in-Deferred g c = hands_on c.from_residual-in_err-e-in-Deferred.ensures.1 (by_case (shape_at c.args.at) c.in-Deferred.is (ends_at _ c.in_err-e-in-Deferred.ensures))

pub returns-in_ok-d-in-Displaced : goal.returns-in_ok-d-in-Displaced
unfolding shape_at
returns-in_ok-d-in-Displaced g c =
    let e : to_z w32 (of_z w32 c.in_ok-d-in-Displaced.d.value) ≡ c.in_ok-d-in-Displaced.d.value = search rules in
    by_case (shape_at c.args.at) c.in-Displaced.is (goes_on _ c.in_ok-d-in-Displaced.ensures (gives (cc)))

pub returns-in_ok-e-in-Deferred : goal.returns-in_ok-e-in-Deferred
unfolding shape_at
returns-in_ok-e-in-Deferred g c =
    let e : to_z w32 (of_z w32 c.in_ok-e-in-Deferred.e.value) ≡ c.in_ok-e-in-Deferred.e.value = search rules in
    by_case (shape_at c.args.at) c.in-Deferred.is (goes_on _ c.in_ok-e-in-Deferred.ensures (gives (cc)))
