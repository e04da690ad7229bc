-- Lines that name addresses: those of the two sheets, and the bytes that a step has set.
use Rattle.std.specs.Prelude.{ℕ, Bool, false, cond, ◌||◌, List, [], ◌∷◌, ◌==◌}

-- whether some line names address a, where `at` tells the address of a line
abbrev pub names : {L : Type 0} → (L → ℕ) → ℕ → List L → Bool
names at a [] = false
names at a (x ∷ xs) = at x == a || names at a xs

-- what the last line that names address a has, else d
abbrev pub latest : {L X : Type 0} → (L → ℕ) → (L → X) → ℕ → X → List L → X
latest at has a d [] = d
latest at has a d (x ∷ xs) = latest at has a (cond (at x == a) (has x) d) xs

-- what holds of every line
abbrev pub All : {L : Type 0} → (L → Type 0) → List L → Type 0
All P [] = Unit {0}
All P (x ∷ xs) = P x × All P xs
