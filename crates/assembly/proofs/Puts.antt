-- A store in RAM, by the place of its address among the bytes.
use Rattle.std.proofs.Common.{◌≡◌, ℕ, ◌-◌, true, Some, subst, arith}
use Rattle.std.proofs.lemmas.Bool.Decides.{nat_tests}
use Rattle.board.specs.declared.Right.TheVariants.{ReadWrite}
use Rattle.board.specs.Meaning.{covers, place, over, held, changed, stored}

-- an address that has a place is one of the n
covered : (base n a i : ℕ) → place base n a ≡ Some i → (covers base n a ≡ true) × (i ≡ a - base)
covered base n a i p = grind (arith, nat_tests)

held_at : (base n a b : ℕ) (f : ℕ → ℕ) (x : ℕ) → covers base n a ≡ true → held base n (changed (a - base) b f) x ≡ changed a b (held base n f) x
held_at base n a b f x p = grind (arith, nat_tests)

pub held_changed : (base n a b i : ℕ) (f g : ℕ → ℕ) → place base n a ≡ Some i → g ≡ changed i b f → held base n g ≡ stored (over ReadWrite base n a) a b (held base n f)
held_changed base n a b i f g p q =
    let c = covered base n a i p in
    let e : g ≡ changed (a - base) b f = subst (λ k. g ≡ changed k b f) c.1 q in
    rw (e, c.0) (λ j x. held_at base n a b f x c.0 j)
