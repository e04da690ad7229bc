-- Laws of the store buffer.
use Rattle.std.proofs.Common.{◌≡◌, ℕ, zero, suc, ◌+◌, ◌-◌, ◌^◌, ◌<◌, ◌≤◌, true, cond, ◌&&◌, ◌||◌, eqb, ltb, ◌⊎◌, List, [], ◌∷◌, ◌++◌, length, get_or, take, drop, replicate, set, Some, None, Option, sym, refl, ap, ◌∙◌, inl, inr, arith}
use Rattle.std.proofs.lemmas.Bool.{eq-eqb, ne_eqb, cases_eq, and_parts, eqb-true, ltb-true}
use Rattle.std.proofs.lemmas.List.{take_more_set, length-take-le, length-set, drop-set-lt, drop-drop, drop-replicate}
use Rattle.std.proofs.lemmas.Option.{slice_get-get_or, slice_get_read}
use Rattle.std.specs.Borrow.{Bor}
use Rattle.std.specs.Option.{option_copied}
use Rattle.std.specs.Slice.{IsItemAt}
use Rattle.board.specs.Block.{above}
use Rattle.bus.specs.Sheets.{latest}
use Rattle.bus.specs.Buffer.{cells, buffered, last_set, offset, joins, OneRun}
use Rattle.bus.specs.Form.{OneForm, length_buffered}
use Rattle.std.proofs.lemmas.Bool.Decides.{nat_tests}

-- one byte more at the end
pub cells_push : (base i : ℕ) (bs : List ℕ) (b : ℕ) → cells base i (bs ++ (b ∷ [])) ≡ cells base i bs ++ ((above base (i + length bs), b) ∷ [])
cells_push base i [] b = let e : above base i ≡ above base (i + 0) = omega arith in ap (λ a. (a, b) ∷ []) e
cells_push base i (x ∷ bs) b =
    let e : above base (suc i + length bs) ≡ above base (i + suc (length bs)) = omega arith in
    ap (λ cs. (above base i, x) ∷ cs) (cells_push base (suc i) bs b ∙ ap (λ a. cells base (suc i) bs ++ ((a, b) ∷ [])) e)

module _ (base a : ℕ) (low : base < 2 ^ 32) (low' : a < 2 ^ 32) where
  at_offset : (i : ℕ) → offset base a ≡ i → above base i ≡ a
  at_offset i e = omega arith

  not_offset : (i : ℕ) → i < 2 ^ 32 → (offset base a ≡ i → ⊥) → above base i ≡ a → ⊥
  not_offset i h n e = n (omega arith)

  -- an address before or after the run is not set in it
  pub set_outside : (bs : List ℕ) (i : ℕ) (d : Option ℕ) → i + length bs ≤ 2 ^ 32 → (offset base a < i) ⊎ (i + length bs ≤ offset base a) → latest (λ c. c.0) (λ c. Some c.1) a d (cells base i bs) ≡ d
  set_outside [] i d h o = refl
  set_outside (b ∷ bs) i d h o =
      let e = ne_eqb (above base i) a (not_offset i (omega arith) (λ q. elim o [ inl x ↦ omega arith | inr x ↦ omega arith ])) in
      ap (λ t. latest (λ c. c.0) (λ c. Some c.1) a (cond t (Some b) d) (cells base (suc i) bs)) e
      ∙ set_outside bs (suc i) d (omega arith) (elim o [ inl x ↦ inl (omega arith) | inr x ↦ inr (omega arith) ])

  -- one within it is
  pub set_inside : (bs : List ℕ) (i : ℕ) (d : Option ℕ) → i + length bs ≤ 2 ^ 32 → i ≤ offset base a → offset base a < i + length bs → latest (λ c. c.0) (λ c. Some c.1) a d (cells base i bs) ≡ Some (get_or bs (offset base a - i) 0)
  set_inside [] i d h l m = absurd (omega arith)
  set_inside (b ∷ bs) i d h l m = elim (cases_eq (offset base a) i) [
    | inl q ↦ let e = eq-eqb (above base i) a (at_offset i q) in
        let z : offset base a - i ≡ 0 = omega arith in
        ap (λ t. latest (λ c. c.0) (λ c. Some c.1) a (cond t (Some b) d) (cells base (suc i) bs)) e
        ∙ (set_outside bs (suc i) (Some b) (omega arith) (inl (omega arith)) ∙ ap (λ k. Some (get_or (b ∷ bs) k 0)) (sym z))
    | inr q ↦ let e = ne_eqb (above base i) a (not_offset i (omega arith) q) in
        let z : offset base a - i ≡ suc (offset base a - suc i) = omega arith in
        ap (λ t. latest (λ c. c.0) (λ c. Some c.1) a (cond t (Some b) d) (cells base (suc i) bs)) e
        ∙ (set_inside bs (suc i) d (omega arith) (omega arith) (omega arith) ∙ ap (λ k. Some (get_or (b ∷ bs) k 0)) (sym z))
  ]

  -- looking into a run
  pub looked_up : (bs : List ℕ) (r : Option (Bor ℕ)) → length bs ≤ 256 → IsItemAt bs (offset base a) r → option_copied r ≡ last_set a (cells base 0 bs)
  looked_up bs None h e = let l : length bs ≤ offset base a = e.3 in sym (set_outside bs 0 None (omega arith) (inr (omega arith)))
  looked_up bs (Some x) h e =
      let l : offset base a < length bs = e.3.0 in
      let z : offset base a - 0 ≡ offset base a = omega arith in
      sym (set_inside bs 0 None (omega arith) (omega arith) (omega arith) ∙ (ap (λ k. Some (get_or bs k 0)) z ∙ (sym (slice_get-get_or bs (offset base a) 0 e.3.0) ∙ slice_get_read bs (length bs) (offset base a) x.now refl e.3.0 e.1)))

-- one byte more in a buffer
pub buffer_push : (base n a b : ℕ) (bytes : List ℕ) → n < length bytes → above base n ≡ a → buffered base (n + 1) (set bytes n b) ≡ buffered base n bytes ++ ((a, b) ∷ [])
buffer_push base n a b bytes h e =
    let l : 0 + length (take n bytes) ≡ n = omega (arith, length-take-le n bytes (omega arith)) in
    ap (cells base 0) (take_more_set bytes n b h)
    ∙ (cells_push base 0 (take n bytes) b
    ∙ ap (λ x. cells base 0 (take n bytes) ++ ((x, b) ∷ [])) (ap (above base) l ∙ e))

-- and what is not used stays 0
pub form_push : (base base' n b : ℕ) (bytes : List ℕ) → base' < 2 ^ 32 → n < 256 → OneForm base n bytes → OneForm base' (n + 1) (set bytes n b)
form_push base base' n b bytes l r h = record {
  low = l;
  few = omega (arith, r);
  all = length-set bytes n b ∙ h.all;
  unused = drop-set-lt (n + 1) bytes n b (omega arith)
      ∙ (sym (drop-drop 1 n bytes) ∙ (ap (drop 1) h.unused ∙ (drop-replicate 1 (256 - n) 0 ∙ ap (λ k. replicate k 0) (omega arith))));
  unset = λ z. absurd (omega (arith, z));
}

-- the front of a run is a run
pub cells_front : (base i : ℕ) (xs ys : List (ℕ × ℕ)) (bs : List ℕ) → xs ++ ys ≡ cells base i bs → (cs : List ℕ) × (length cs ≤ length bs) × (xs ≡ cells base i cs)
cells_front base i [] ys bs e = ([], omega arith, refl)
cells_front base i (x ∷ xs) ys [] e = let z : ◌≡◌ {A = ℕ} 0 1 = cc in absurd (omega arith)
cells_front base i (x ∷ xs) ys (b ∷ bs) e =
    let h : x ≡ (above base i, b) = cc in
    let t : xs ++ ys ≡ cells base (suc i) bs = cc in
    let r = cells_front base (suc i) xs ys bs t in
    (b ∷ r.0, omega (arith, r.1), (λ j. h j ∷ r.2 j))

-- ---- bytes that stay one run join the bytes that are set
first_cell : (base : ℕ) (c : ℕ × ℕ) (xs : List (ℕ × ℕ)) (bs : List ℕ) → base < 2 ^ 32 → c ∷ xs ≡ cells base 0 bs → c.0 ≡ base
first_cell base c xs [] l e = let z : ◌≡◌ {A = ℕ} 0 1 = cc in absurd (omega arith)
first_cell base c xs (b ∷ bs) l e = let h : ◌≡◌ {A = ℕ × ℕ} c (above base 0, b) = cc in omega (arith, ap (λ p. p.0) h)

last_cell : (base i a b : ℕ) (xs : List (ℕ × ℕ)) (bs : List ℕ) → xs ++ ((a, b) ∷ []) ≡ cells base i bs → (length bs ≡ length xs + 1) × (a ≡ above base (i + length xs))
last_cell base i a b [] [] e = let z : ◌≡◌ {A = ℕ} 0 1 = cc in absurd (omega arith)
last_cell base i a b [] (c ∷ []) e = let h : ◌≡◌ {A = ℕ × ℕ} (a, b) (above base i, c) = cc in (omega arith, omega (arith, ap (λ p. p.0) h))
last_cell base i a b [] (c ∷ d ∷ bs) e = let z : ◌≡◌ {A = ℕ} 0 1 = cc in absurd (omega arith)
last_cell base i a b (x ∷ xs) [] e = let z : ◌≡◌ {A = ℕ} 0 1 = cc in absurd (omega arith)
last_cell base i a b (x ∷ xs) (c ∷ bs) e =
    let t : xs ++ ((a, b) ∷ []) ≡ cells base (suc i) bs = cc in
    let r = last_cell base (suc i) a b xs bs t in
    (omega (arith, r.0), r.1 ∙ omega arith)

pub one_run_joins : (cs : List (ℕ × ℕ)) (a b : ℕ) → OneRun (cs ++ ((a, b) ∷ [])) → joins cs a ≡ true
one_run_joins [] a b o = refl
one_run_joins (c ∷ cs) a b o =
    let r = last_cell o.base 0 a b (c ∷ cs) o.bytes o.is in
    let f = first_cell o.base c (cs ++ ((a, b) ∷ [])) o.bytes o.low o.is in
    let n : length (c ∷ cs) < 256 = omega (arith, r.0, o.few) in
    let q : offset c.0 a ≡ length (c ∷ cs) = omega (arith, r.1, o.low, f) in
    grind (arith, nat_tests)

-- ---- where a byte joins the first n of a buffer
pub joins_buffered : (base n a : ℕ) (bytes : List ℕ) → base < 2 ^ 32 → n ≤ length bytes → joins (buffered base n bytes) a ≡ (eqb n 0 || (ltb n 256 && eqb (offset base a) n))
joins_buffered base zero a bytes l h = refl
joins_buffered base (suc n) a [] l h = absurd (omega arith)
joins_buffered base (suc n) a (b ∷ bs) l h =
    let e : above base 0 ≡ base = omega arith in
    let m : length (cells base 0 (take (suc n) (b ∷ bs))) ≡ suc n = length_buffered base (suc n) (b ∷ bs) h in
    (λ i. ltb (m i) 256 && eqb (offset (e i) a) (m i)) ∙ ap (λ t. t || (ltb (suc n) 256 && eqb (offset base a) (suc n))) (sym (ne_eqb (suc n) 0 (omega arith)))

-- there is room for it
joins_room : (cs : List (ℕ × ℕ)) (a : ℕ) → joins cs a ≡ true → length cs < 256
joins_room [] a j = omega arith
joins_room (c ∷ cs) a j = ltb-true (length (c ∷ cs)) 256 (and_parts (ltb (length (c ∷ cs)) 256) (eqb (offset c.0 a) (length (c ∷ cs))) j).0

pub join_room : (base n a : ℕ) (bytes : List ℕ) → n ≤ length bytes → joins (buffered base n bytes) a ≡ true → n < 256
join_room base n a bytes h j = omega (arith, joins_room (buffered base n bytes) a j, length_buffered base n bytes h)

-- and it is one byte more, where the first begins the buffer anew
pub joined_there : (base n a b : ℕ) (bytes : List ℕ) → base < 2 ^ 32 → a < 2 ^ 32 → n < length bytes → joins (buffered base n bytes) a ≡ true → buffered (cond (eqb n 0) a base) (n + 1) (set bytes n b) ≡ buffered base n bytes ++ ((a, b) ∷ [])
joined_there base n a b bytes l m h j = elim (cases_eq n 0) [
  | inl z ↦ ap (λ t. buffered (cond t a base) (n + 1) (set bytes n b)) (eq-eqb n 0 z)
      ∙ (buffer_push a n a b bytes h (omega arith) ∙ ap (λ cs. cs ++ ((a, b) ∷ [])) (ap (λ k. buffered a k bytes) z ∙ ap (λ k. buffered base k bytes) (sym z)))
  | inr z ↦ let t = ne_eqb n 0 z in
      let j' : (eqb n 0 || (ltb n 256 && eqb (offset base a) n)) ≡ true = sym (joins_buffered base n a bytes l (omega arith)) ∙ j in
      let o : offset base a ≡ n = eqb-true (offset base a) n (and_parts (ltb n 256) (eqb (offset base a) n) (ap (λ x. x || (ltb n 256 && eqb (offset base a) n)) (sym t) ∙ j')).1 in
      ap (λ t. buffered (cond t a base) (n + 1) (set bytes n b)) t ∙ buffer_push base n a b bytes h (at_offset base a l m n o)
]
