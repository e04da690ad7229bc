use Rattle.std.proofs.Common.{◌≡◌, sym, refl, ap, ◌∙◌, w32, to_z, of_z, rules}
use Rattle.bus.proofs.Laws.{goes_on, ends_at, gives, hands_on, by_case}
use Rattle.processor.specs.declared.operand.Location.TheVariants.{InMemory}
use Rattle.processor.specs.Operands.{locate, found, displaced, fetch_pointer}
use Rattle.processor.proofs.operand.locate.Goals as goal

pub returns-in-Register : goal.returns-in-Register
unfolding locate
returns-in-Register g c = rw c.in-Register.is (gives refl)

pub returns-in-Immediate : goal.returns-in-Immediate
unfolding locate
returns-in-Immediate g c = rw c.in-Immediate.is (gives refl)

pub returns-in_err-address_of-in-Memory : goal.returns-in_err-address_of-in-Memory
unfolding locate
returns-in_err-address_of-in-Memory g c = hands_on c.from_residual.ensures.1 (rw c.in-Memory.is (ends_at _ c.in_err-address_of-in-Memory.ensures))

pub returns-in_ok-address_of-in-Memory : goal.returns-in_ok-address_of-in-Memory
unfolding locate
returns-in_ok-address_of-in-Memory g c = rw c.in-Memory.is (goes_on _ c.in_ok-address_of-in-Memory.ensures (gives refl))

pub returns-in_err-b-in-Indexed : goal.returns-in_err-b-in-Indexed
unfolding locate
returns-in_err-b-in-Indexed g c = hands_on c.from_residual-in_err-b-in-Indexed.ensures.1 (rw c.in-Indexed.is (ends_at _ c.in_err-b-in-Indexed.ensures))

pub returns-in_ok-b-in-Indexed : goal.returns-in_ok-b-in-Indexed
unfolding locate
returns-in_ok-b-in-Indexed g c = rw c.in-Indexed.is (goes_on _ c.in_ok-b-in-Indexed.ensures (gives (ap (λ a. found c.args.cpu (InMemory a)) (sym c.indexed.ensures))))

pub returns-in_err-p-in-Double : goal.returns-in_err-p-in-Double
unfolding locate
returns-in_err-p-in-Double g c =
    let e : to_z w32 (of_z w32 c.in-Double.inner) ≡ c.in-Double.inner = search rules in
    hands_on c.from_residual-in_err-p-in-Double.ensures.1 (rw c.in-Double.is (ends_at _ (by_case fetch_pointer (sym (c.displaced.ensures ∙ (λ i. displaced (c.base_value.ensures i) (e i)))) c.in_err-p-in-Double.ensures)))

pub returns-in_ok-p-in-Double : goal.returns-in_ok-p-in-Double
unfolding locate
returns-in_ok-p-in-Double g c =
    let e : to_z w32 (of_z w32 c.in-Double.inner) ≡ c.in-Double.inner = search rules in
    let o : to_z w32 (of_z w32 c.in-Double.outer) ≡ c.in-Double.outer = search rules in
    rw c.in-Double.is (goes_on _ (by_case fetch_pointer (sym (c.displaced.ensures ∙ (λ i. displaced (c.base_value.ensures i) (e i)))) c.in_ok-p-in-Double.ensures) (gives (ap (λ a. found c.args.cpu (InMemory a)) (sym (c.displaced-in-Double.ensures ∙ ap (displaced c.in_ok-p-in-Double.p) o)))))

pub returns-in-Increment : goal.returns-in-Increment
unfolding locate
returns-in-Increment g c = rw c.in-Increment.is (gives (cc))

pub returns-in-Decrement : goal.returns-in-Decrement
unfolding locate
returns-in-Decrement g c = rw c.in-Decrement.is (gives (cc))
