-- What is read is in the grammar, and what is in the grammar is read.
use Rattle.std.proofs.Common.{◌≡◌, ◌++◌, drop, get_or, eqb, eqb-true, option_map, ok_or, bytes_eq, ℕ, zero, suc, ◌^◌, ◌<◌, Bool, true, false, cond, ltb, List, [], ◌∷◌, length, Option, Some, None, Result, Ok, Err, codes, inl, inr, refl, sym, ap, ◌∙◌, subst, ltb-true, lt-ltb}
use Rattle.script.specs.declared.command_name.CommandName.{CommandName}
use Rattle.script.specs.declared.problem.Problem.{Problem}
use Rattle.script.specs.declared.problem.Problem.TheVariants.{NumberTooLarge, ReadingTooLarge, OddDigits, NotBytes}
use Rattle.std.proofs.lemmas.Slice.Eq.{bytes_eq-Decides}
use Rattle.script.specs.Numbers.{number_of, bytes_of, are_digits}
use Rattle.script.specs.Fields.{◌>>=◌, within, number_in, word_in, limited_at, number_at, reading_at, readings_at, file_in, digits_in, contents_in, end_at}
use Rattle.script.specs.Orders.{Bytes, given, file}
use Rattle.script.specs.Lines.{one_number, two_numbers}
use Rattle.script.specs.Grammar.{SaysNumber, SayReadings, SaysBytes}

-- each step of a chain that gives a value gives one
pub bind_ok : {A B : Type 0} (r : Result A Problem) (f : A → Result B Problem) (y : B) → (r >>= f) ≡ Ok y → (x : A) × (r ≡ Ok x) × (f x ≡ Ok y)
bind_ok (Ok x) f y e = (x, refl, e)
bind_ok (Err p) f y e = cc

pub ok_is : {A : Type 0} (x y : A) (r : Result A Problem) → r ≡ Ok x → r ≡ Ok y → x ≡ y
ok_is x y r d e = cc

-- numbers
number_sound : (limit : ℕ) (p : Problem) (o : Option ℕ) (n : ℕ) → within limit p o ≡ Ok n → (o ≡ Some n) × (n < limit)
number_sound limit p None n e = cc
number_sound limit p (Some m) n e = by (ltb m limit) refl e where
  by : (t : Bool) → ltb m limit ≡ t → cond t (Ok m) (Err p) ≡ Ok n → (Some m ≡ Some n) × (n < limit)
  by true lt e = let same : m ≡ n = cc in (ap Some same, subst (λ k. k < limit) same (ltb-true m limit lt))
  by false lt e = cc

number_complete : (limit : ℕ) (p : Problem) (o : Option ℕ) (n : ℕ) → o ≡ Some n → n < limit → within limit p o ≡ Ok n
number_complete limit p o n e lt = let t : ltb n limit ≡ true = lt-ltb n limit lt in rw (e, t) refl

pub limited_sound : (limit : ℕ) (p : Problem) (name : CommandName) (ws : List (List ℕ)) (n : ℕ) (rest : List (List ℕ)) → limited_at limit p name ws ≡ Ok (n, rest) → (w : List ℕ) × (ws ≡ w ∷ rest) × SaysNumber limit w n
unfolding word_in
limited_sound limit p name [] n rest e = cc
limited_sound limit p name (w ∷ ws) n rest e =
    let b = bind_ok (number_in limit p w) (λ n. Ok (n, ws)) (n, rest) e in
    let pair : (b.0, ws) ≡ (n, rest) = ok_is (b.0, ws) (n, rest) (Ok (b.0, ws)) refl b.2 in
    let one : b.0 ≡ n = ap (λ x. x.0) pair in
    let two : ws ≡ rest = ap (λ x. x.1) pair in
    (w, ap (λ (r : List (List ℕ)). w ∷ r) two, let h = number_sound limit p (number_of w) n (b.1 ∙ ap Ok one) in record { says = h.0; below = h.1 })

pub limited_complete : (limit : ℕ) (p : Problem) (name : CommandName) (w : List ℕ) (n : ℕ) (rest : List (List ℕ)) → SaysNumber limit w n → limited_at limit p name (w ∷ rest) ≡ Ok (n, rest)
unfolding word_in
limited_complete limit p name w n rest h = rw (number_complete limit p (number_of w) n h.says h.below) refl

-- the end
pub end_sound : (name : CommandName) (ws : List (List ℕ)) (u : Unit {0}) → end_at name ws ≡ Ok u → ws ≡ []
unfolding end_at
end_sound name [] u e = refl
end_sound name (w ∷ ws) u e = cc

-- one number and no more
pub one_sound : (name : CommandName) (ws : List (List ℕ)) (n : ℕ) → one_number name ws ≡ Ok n → (w : List ℕ) × (ws ≡ w ∷ []) × SaysNumber (2 ^ 32) w n
unfolding one_number number_at
one_sound name ws n e =
    let a = bind_ok (number_at name ws) (λ a. end_at name a.1 >>= λ end. Ok a.0) n e in
    let b = bind_ok (end_at name a.0.1) (λ end. Ok a.0.0) n a.2 in
    let w = limited_sound (2 ^ 32) NumberTooLarge name ws a.0.0 a.0.1 a.1 in
    let none = end_sound name a.0.1 b.0 b.1 in
    let same = ok_is a.0.0 n (Ok a.0.0) refl b.2 in
    (w.0, w.1 ∙ ap (λ (r : List (List ℕ)). w.0 ∷ r) none, subst (λ k. SaysNumber (2 ^ 32) w.0 k) same w.2)

pub one_complete : (name : CommandName) (w : List ℕ) (n : ℕ) → SaysNumber (2 ^ 32) w n → one_number name (w ∷ []) ≡ Ok n
unfolding one_number number_at end_at
one_complete name w n h = rw (limited_complete (2 ^ 32) NumberTooLarge name w n [] h) refl

-- two numbers and no more, the second below a limit
abbrev pub last_of : CommandName → ℕ → ℕ × List (List ℕ) → Result (ℕ × ℕ) Problem
last_of name m n = end_at name n.1 >>= λ end. let pair : ℕ × ℕ = (m, n.0) in Ok pair

abbrev pub second_of : ℕ → Problem → CommandName → ℕ × List (List ℕ) → Result (ℕ × ℕ) Problem
second_of limit p name m = limited_at limit p name m.1 >>= λ n. last_of name m.0 n

abbrev pub two_of : ℕ → Problem → CommandName → List (List ℕ) → Result (ℕ × ℕ) Problem
two_of limit p name ws = number_at name ws >>= λ m. second_of limit p name m

pub two_sound : (limit : ℕ) (p : Problem) (name : CommandName) (ws : List (List ℕ)) (m n : ℕ) → two_of limit p name ws ≡ Ok (m, n)
    → (v w : List ℕ) × (ws ≡ v ∷ w ∷ []) × SaysNumber (2 ^ 32) v m × SaysNumber limit w n
unfolding number_at
two_sound limit p name ws m n e =
    let a = bind_ok (number_at name ws) (second_of limit p name) (m, n) e in
    let b = bind_ok (limited_at limit p name a.0.1) (last_of name a.0.0) (m, n) a.2 in
    let d = bind_ok (end_at name b.0.1) (λ end. let pair : ℕ × ℕ = (a.0.0, b.0.0) in Ok pair) (m, n) b.2 in
    let v = limited_sound (2 ^ 32) NumberTooLarge name ws a.0.0 a.0.1 a.1 in
    let w = limited_sound limit p name a.0.1 b.0.0 b.0.1 b.1 in
    let none = end_sound name b.0.1 d.0 d.1 in
    let same = ok_is (a.0.0, b.0.0) (m, n) (Ok (a.0.0, b.0.0)) refl d.2 in
    let one : a.0.0 ≡ m = ap (λ x. x.0) same in
    let two : b.0.0 ≡ n = ap (λ x. x.1) same in
    let others : a.0.1 ≡ w.0 ∷ [] = w.1 ∙ ap (λ (r : List (List ℕ)). w.0 ∷ r) none in
    (v.0, w.0, v.1 ∙ ap (λ (r : List (List ℕ)). v.0 ∷ r) others, subst (λ k. SaysNumber (2 ^ 32) v.0 k) one v.2, subst (λ k. SaysNumber limit w.0 k) two w.2)

pub numbers_sound : (name : CommandName) (ws : List (List ℕ)) (m n : ℕ) → two_numbers name ws ≡ Ok (m, n) → (v w : List ℕ) × (ws ≡ v ∷ w ∷ []) × SaysNumber (2 ^ 32) v m × SaysNumber (2 ^ 32) w n
unfolding two_numbers number_at
numbers_sound name ws m n e = two_sound (2 ^ 32) NumberTooLarge name ws m n e

pub two_complete : (limit : ℕ) (p : Problem) (name : CommandName) (v w : List ℕ) (m n : ℕ) → SaysNumber (2 ^ 32) v m → SaysNumber limit w n
    → two_of limit p name (v ∷ w ∷ []) ≡ Ok (m, n)
unfolding number_at end_at
two_complete limit p name v w m n g h =
    let a = limited_complete (2 ^ 32) NumberTooLarge name v m (w ∷ []) g in
    let b = limited_complete limit p name w n [] h in
    rw (a, b) refl

pub numbers_complete : (name : CommandName) (v w : List ℕ) (m n : ℕ) → SaysNumber (2 ^ 32) v m → SaysNumber (2 ^ 32) w n → two_numbers name (v ∷ w ∷ []) ≡ Ok (m, n)
unfolding two_numbers number_at
numbers_complete name v w m n g h = two_complete (2 ^ 32) NumberTooLarge name v w m n g h

-- readings, one after another
pub readings_sound : (count : ℕ) (name : CommandName) (ws : List (List ℕ)) (ns : List ℕ) (rest : List (List ℕ)) → readings_at count name ws ≡ Ok (ns, rest)
    → (vs : List (List ℕ)) × (ws ≡ vs ++ rest) × SayReadings vs ns × (length ns ≡ count)
unfolding readings_at reading_at
readings_sound zero name ws ns rest e =
    let same = ok_is ([], ws) (ns, rest) (Ok ([], ws)) refl e in
    let none : [] ≡ ns = ap (λ x. x.0) same in
    let left : ws ≡ rest = ap (λ x. x.1) same in
    ([], left, subst (λ k. SayReadings [] k) none tt, ap length (sym none))
readings_sound (suc count) name ws ns rest e =
    let a = bind_ok (reading_at name ws) (λ first. readings_at count name first.1 >>= λ others. let pair : List ℕ × List (List ℕ) = (first.0 ∷ others.0, others.1) in Ok pair) (ns, rest) e in
    let b = bind_ok (readings_at count name a.0.1) (λ others. let pair : List ℕ × List (List ℕ) = (a.0.0 ∷ others.0, others.1) in Ok pair) (ns, rest) a.2 in
    let same = ok_is (a.0.0 ∷ b.0.0, b.0.1) (ns, rest) (Ok (a.0.0 ∷ b.0.0, b.0.1)) refl b.2 in
    let numbers : a.0.0 ∷ b.0.0 ≡ ns = ap (λ x. x.0) same in
    let left : b.0.1 ≡ rest = ap (λ x. x.1) same in
    let first = limited_sound (2 ^ 16) ReadingTooLarge name ws a.0.0 a.0.1 a.1 in
    let others = readings_sound count name a.0.1 b.0.0 b.0.1 b.1 in
    (first.0 ∷ others.0, first.1 ∙ ap (λ (r : List (List ℕ)). first.0 ∷ r) (others.1 ∙ ap (λ (r : List (List ℕ)). others.0 ++ r) left), subst (λ k. SayReadings (first.0 ∷ others.0) k) numbers (first.2, others.2), ap length (sym numbers) ∙ ap suc others.3)

pub readings_complete : (name : CommandName) (vs : List (List ℕ)) (ns : List ℕ) (rest : List (List ℕ)) → SayReadings vs ns → readings_at (length ns) name (vs ++ rest) ≡ Ok (ns, rest)
unfolding readings_at reading_at
readings_complete name [] [] rest h = refl
readings_complete name [] (n ∷ ns) rest h = absurd h
readings_complete name (v ∷ vs) [] rest h = absurd h
readings_complete name (v ∷ vs) (n ∷ ns) rest h =
    let first = limited_complete (2 ^ 16) ReadingTooLarge name v n (vs ++ rest) h.0 in
    let others = readings_complete name vs ns rest h.1 in
    rw (first, others) refl

-- bytes
by_dash : (word : List ℕ) → bytes_eq word (codes "-") ≡ true → word ≡ codes "-"
by_dash word e = (bytes_eq-Decides word (codes "-")).0 e

at_sign : (word : List ℕ) → eqb (get_or word 0 0) 64 ≡ true → word ≡ 64 ∷ drop 1 word
at_sign [] e = cc
at_sign (c ∷ cs) e = ap (λ (b : ℕ). b ∷ cs) (eqb-true c 64 e)

file_sound : (word name : List ℕ) (b : Bytes) → word ≡ 64 ∷ name → file_in name ≡ Ok b → SaysBytes word b
file_sound word [] b w e = cc
file_sound word (c ∷ cs) b w e = subst (λ k. SaysBytes word k) (ok_is (file (c ∷ cs)) b (Ok (file (c ∷ cs))) refl e) (w, λ none. cc)

digits_sound : (word : List ℕ) (o : Option (List ℕ)) (p : Problem) (b : Bytes) → bytes_of word ≡ o → ok_or (option_map given o) p ≡ Ok b → SaysBytes word b
digits_sound word None p b e d = cc
digits_sound word (Some bytes) p b e d = subst (λ k. SaysBytes word k) (ok_is (given bytes) b (Ok (given bytes)) refl d) (inr e)

pub contents_sound : (word : List ℕ) (b : Bytes) → contents_in word ≡ Ok b → SaysBytes word b
unfolding contents_in
contents_sound word b e = by (bytes_eq word (codes "-")) (eqb (get_or word 0 0) 64) refl refl e where
  by : (s t : Bool) → bytes_eq word (codes "-") ≡ s → eqb (get_or word 0 0) 64 ≡ t → cond s (Ok (given [])) (cond t (file_in (drop 1 word)) (digits_in word)) ≡ Ok b → SaysBytes word b
  by true t dash at e = subst (λ k. SaysBytes word k) (ok_is (given []) b (Ok (given [])) refl e) (inl (by_dash word dash, refl))
  by false true dash at e = file_sound word (drop 1 word) b (at_sign word at) e
  by false false dash at e = digits_sound word (bytes_of word) (cond (are_digits word) OddDigits NotBytes) b refl e

no_dash : (word bytes : List ℕ) → bytes_of word ≡ Some bytes → bytes_eq word (codes "-") ≡ false
no_dash word bytes e = by (bytes_eq word (codes "-")) refl where
  by : (t : Bool) → bytes_eq word (codes "-") ≡ t → t ≡ false
  by true h = let none : bytes_of word ≡ None = ap bytes_of (by_dash word h) in cc
  by false h = refl

no_at : (word bytes : List ℕ) → bytes_of word ≡ Some bytes → eqb (get_or word 0 0) 64 ≡ false
no_at word bytes e = by (eqb (get_or word 0 0) 64) refl where
  by : (t : Bool) → eqb (get_or word 0 0) 64 ≡ t → t ≡ false
  by true h = let none : bytes_of word ≡ None = ap bytes_of (at_sign word h) in cc
  by false h = refl

pub contents_complete : (word : List ℕ) (b : Bytes) → SaysBytes word b → contents_in word ≡ Ok b
unfolding contents_in
contents_complete word (given bytes) (inl h) = rw (h.0, h.1) refl
contents_complete word (given bytes) (inr h) =
    let dash = no_dash word bytes h in
    let at = no_at word bytes h in
    rw (dash, at, h) refl
contents_complete word (file []) h = absurd (h.1 refl)
contents_complete word (file (c ∷ cs)) h = rw (h.0) refl
