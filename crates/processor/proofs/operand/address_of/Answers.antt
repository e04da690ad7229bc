use Rattle.std.proofs.Common.{◌≡◌, sym, ◌∙◌, w32, to_z, of_z, rules}
use Rattle.bus.proofs.Laws.{gives, by_case}
use Rattle.processor.specs.Operands.{address_of, displaced, fetch_pointer}
use Rattle.processor.proofs.operand.address_of.Goals as goal

pub returns-in-Indirect : goal.returns-in-Indirect
unfolding address_of
returns-in-Indirect g c = rw c.in-Indirect.is (gives (sym c.register.ensures))

pub returns-in-Displaced : goal.returns-in-Displaced
unfolding address_of
returns-in-Displaced g c =
    let e : to_z w32 (of_z w32 c.in-Displaced.d) ≡ c.in-Displaced.d = search rules in
    rw c.in-Displaced.is (gives (sym (c.displaced.ensures ∙ (λ i. displaced (c.base_value.ensures i) (e i)))))

pub returns-in-Deferred : goal.returns-in-Deferred
unfolding address_of
returns-in-Deferred g c =
    let e : to_z w32 (of_z w32 c.in-Deferred.e) ≡ c.in-Deferred.e = search rules in
    rw c.in-Deferred.is (by_case fetch_pointer (sym (c.displaced-in-Deferred.ensures ∙ (λ i. displaced (c.base_value-in-Deferred.ensures i) (e i)))) c.pointer.ensures)
