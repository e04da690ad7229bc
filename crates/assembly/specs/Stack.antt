-- The stack of boards that a script works on, the lowest board first.
use Rattle.std.specs.Prelude.{ℕ, ◌-◌, List, [], ◌∷◌, Option, length, slice_get, slice_set, take}
use Rattle.assembly.specs.Meaning.{Meaning, cut_of}

-- the last one, if there is one
abbrev pub top_of : {X : Type 0} → List X → Option X
top_of xs = slice_get xs (length xs - 1)

-- all but the last one
abbrev pub without_top : {X : Type 0} → List X → List X
without_top xs = take (length xs - 1) xs

-- x in place of the last one
abbrev pub with_top : {X : Type 0} → List X → X → List X
with_top xs x = slice_set xs (length xs - 1) x

-- the last two boards give way to their cut, the last of them as the upper one; fewer than two stay as they are
abbrev pub cut_last : ℕ → List Meaning → List Meaning
cut_last a [] = []
cut_last a (m ∷ []) = m ∷ []
cut_last a (lower ∷ upper ∷ []) = cut_of a lower upper ∷ []
cut_last a (m ∷ n ∷ o ∷ ms) = m ∷ cut_last a (n ∷ o ∷ ms)
