-- Laws of lines that name addresses.
use Rattle.std.proofs.Common.{◌≡◌, ℕ, ◌+◌, ◌-◌, ◌<◌, ◌≤◌, Bool, true, false, cond, ◌||◌, eqb, List, [], ◌∷◌, ◌++◌, length, get_or, take, drop, sym, refl, ap, ◌∙◌, arith}
use Rattle.std.proofs.lemmas.List.{take_more, drop-drop}
use Rattle.bus.specs.Sheets.{names, latest}

or_assoc : (x y z : Bool) → (x || (y || z)) ≡ ((x || y) || z)
or_assoc true y z = refl
or_assoc false y z = refl

or_false : (x : Bool) → (x || false) ≡ x
or_false true = refl
or_false false = refl

pub names_append : {L : Type 0} (at : L → ℕ) (a : ℕ) (xs ys : List L) → names at a (xs ++ ys) ≡ (names at a xs || names at a ys)
names_append at a [] ys = refl
names_append at a (x ∷ xs) ys = ap (λ r. eqb (at x) a || r) (names_append at a xs ys) ∙ or_assoc (eqb (at x) a) (names at a xs) (names at a ys)

-- one line more, as the search goes on
pub names_more : {L : Type 0} (at : L → ℕ) (a : ℕ) (xs : List L) (i : ℕ) (d : L) → i < length xs → names at a (take (i + 1) xs) ≡ (names at a (take i xs) || eqb (at (get_or xs i d)) a)
names_more at a xs i d h = ap (names at a) (take_more xs i d h) ∙ (names_append at a (take i xs) (get_or xs i d ∷ []) ∙ ap (λ r. names at a (take i xs) || r) (or_false (eqb (at (get_or xs i d)) a)))

pub latest_append : {L X : Type 0} (at : L → ℕ) (has : L → X) (a : ℕ) (d : X) (xs ys : List L) → latest at has a d (xs ++ ys) ≡ latest at has a (latest at has a d xs) ys
latest_append at has a d [] ys = refl
latest_append at has a d (x ∷ xs) ys = latest_append at has a (cond (eqb (at x) a) (has x) d) xs ys

pub drop_more_same : {X : Type 0} (m n : ℕ) (xs ys : List X) → m ≤ n → drop m xs ≡ drop m ys → drop n xs ≡ drop n ys
drop_more_same m n xs ys h e =
    let p : m + (n - m) ≡ n = omega arith in
    sym (drop-drop (n - m) m xs ∙ ap (λ k. drop k xs) p) ∙ (ap (drop (n - m)) e ∙ (drop-drop (n - m) m ys ∙ ap (λ k. drop k ys) p))
