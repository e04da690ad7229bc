-- The last two of a list give way to their cut.
use Rattle.std.proofs.Common.{◌≡◌, ℕ, List, [], ◌∷◌, ◌++◌, map, ap, sym, ◌∙◌, refl}
use Rattle.std.proofs.lemmas.List.{map-append, append_assoc}
use Rattle.assembly.specs.Meaning.{Meaning, cut_of}
use Rattle.assembly.specs.Made.{meaning_of}
use Rattle.assembly.specs.Stack.{cut_last}
use Rattle.assembly.specs.declared.made.Assembly.{Assembly}

cut_last-append : (a : ℕ) (ms : List Meaning) (lower upper : Meaning) → cut_last a (ms ++ lower ∷ upper ∷ []) ≡ ms ++ cut_of a lower upper ∷ []
cut_last-append a [] lower upper = refl
cut_last-append a (m ∷ []) lower upper = refl
cut_last-append a (m ∷ n ∷ []) lower upper = refl
cut_last-append a (m ∷ n ∷ o ∷ ms) lower upper = ap (λ t. m ∷ t) (cut_last-append a (n ∷ o ∷ ms) lower upper)

pub cut_boards : (a : ℕ) (rest : List Assembly) (lower upper board : Assembly) → meaning_of board ≡ cut_of a (meaning_of lower) (meaning_of upper)
    → map meaning_of (rest ++ board ∷ []) ≡ cut_last a (map meaning_of ((rest ++ lower ∷ []) ++ upper ∷ []))
cut_boards a rest lower upper board e =
    map-append meaning_of rest (board ∷ [])
    ∙ ap (λ m. map meaning_of rest ++ m ∷ []) e
    ∙ sym (cut_last-append a (map meaning_of rest) (meaning_of lower) (meaning_of upper))
    ∙ ap (cut_last a) (sym (ap (map meaning_of) (append_assoc rest (lower ∷ []) (upper ∷ [])) ∙ map-append meaning_of rest (lower ∷ upper ∷ [])))
