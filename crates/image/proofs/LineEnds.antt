-- The first line of a text, by where its LF stands.
use Rattle.std.proofs.Common.{◌≡◌, ℕ, zero, suc, ◌+◌, ◌-◌, ◌<◌, Bool, true, false, cond, eqb, List, [], ◌∷◌, length, get_or, take, drop, Some, None, refl, ap, sym, ◌∙◌, arith, length-drop}
use Rattle.std.proofs.Math.Seq.{take-length}
use Rattle.std.proofs.lemmas.Bool.{ltb-false}
use Rattle.std.proofs.lemmas.List.Sums.{fails_before_first}
use Rattle.std.specs.List.{onto_first, position}
use Rattle.std.proofs.lemmas.List.Quantifiers.{position-Some}
use Rattle.image.specs.Lines.{lines}

-- the lines of a text whose byte i is its first LF
by_place : (text : List ℕ) (i : ℕ) → i < length text → eqb (get_or text i 0) 10 ≡ true → ((k : ℕ) → k < i → eqb (get_or text k 0) 10 ≡ false) → lines text ≡ take i text ∷ lines (drop (i + 1) text)
by_place [] i h at before = absurd (omega arith)
by_place (b ∷ bs) zero h at before = ap (λ t. cond t ([] ∷ lines bs) (onto_first b (lines bs))) at
by_place (b ∷ bs) (suc i) h at before =
    let e : suc i + 1 ≡ suc (i + 1) = omega arith in
    let rest = by_place bs i (omega arith) at (λ k l. before (suc k) (omega arith)) in
    rw e (ap (λ t. cond t ([] ∷ lines bs) (onto_first b (lines bs))) (before 0 (omega arith)) ∙ ap (onto_first b) rest)

-- a text with no LF is one line
by_none : (b : ℕ) (bs : List ℕ) → ((k : ℕ) → k < length (b ∷ bs) → eqb (get_or (b ∷ bs) k 0) 10 ≡ false) → lines (b ∷ bs) ≡ (b ∷ bs) ∷ []
by_none b [] before = ap (λ t. cond t ([] ∷ []) ((b ∷ []) ∷ [])) (before 0 (omega arith))
by_none b (c ∷ cs) before =
    ap (λ t. cond t ([] ∷ lines (c ∷ cs)) (onto_first b (lines (c ∷ cs)))) (before 0 (omega arith))
    ∙ ap (onto_first b) (by_none c cs (λ k l. before (suc k) (omega arith)))

-- what follows a place, as the code cuts it off
after : (text : List ℕ) (n : ℕ) → take (length text - n) (drop n text) ≡ drop n text
after text n = ap (λ m. take m (drop n text)) (sym (length-drop n text)) ∙ take-length (drop n text)

pub lines_at : (text : List ℕ) (i : ℕ) → position (λ byte. eqb byte 10) text ≡ Some i → lines text ≡ take i text ∷ lines (take (length text - (i + 1)) (drop (i + 1) text))
lines_at text i e =
    let found = position-Some (λ byte. eqb byte 10) text i 0 e in
    by_place text i found.0 found.1 found.2 ∙ ap (λ (rest : List ℕ). take i text ∷ lines rest) (sym (after text (i + 1)))

none_fails : (t : Bool) (n : ℕ) → cond t (Some n) None ≡ None → t ≡ false
none_fails true n e = absurd cc
none_fails false n e = refl

pub lines_none : (text : List ℕ) → 0 < length text → position (λ byte. eqb byte 10) text ≡ None → lines text ≡ text ∷ []
lines_none [] h e = absurd (omega arith)
lines_none (b ∷ bs) h e =
    let past = ltb-false _ _ (none_fails _ _ e) in
    by_none b bs (λ k l. fails_before_first (λ byte. eqb byte 10) (b ∷ bs) k 0 (omega (arith, past)))
