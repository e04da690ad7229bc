-- A store in the bank that answers at its address.
use Rattle.std.proofs.Common.{◌≡◌, ℕ, zero, suc, ◌==◌, Bool, true, false, cond, nat_lt, List, [], ◌∷◌, slice_index_or, slice_set, ap, subst, sym, ◌∙◌, refl, arith}
use Rattle.std.proofs.lemmas.Bool.Decides.{nat_tests}
use Rattle.board.specs.declared.Right.{Right}
use Rattle.board.specs.declared.Right.TheVariants.{NoAccess, ReadOnly, ReadWrite}
use Rattle.board.specs.Meaning.{writable, stored}
use Rattle.assembly.specs.Meaning.{Meaning}
use Rattle.assembly.specs.Banks.{bank_meaning}
use Rattle.assembly.specs.Joints.{answering, passed}
use Rattle.assembly.specs.Made.{joined}
use Rattle.assembly.specs.declared.bank.Bank.{Bank}
use Rattle.assembly.specs.declared.made.Joint.{Joint}

-- the old meaning and the new one, where byte y was stored at a
pub record Stores (a y : ℕ) (old new : Meaning) : Type 0 where
  pub rights : (x : ℕ) → new.rights x ≡ old.rights x
  pub bytes : (x : ℕ) → new.bytes x ≡ stored (old.rights a) a y old.bytes x

-- what address x holds then, which held v
abbrev left_at : Right → ℕ → ℕ → ℕ → ℕ → ℕ
left_at r a y x v = cond (writable r) (cond (x == a) y v) v

other : (r : Right) (a y x v : ℕ) → (x == a) ≡ false → v ≡ left_at r a y x v
other NoAccess a y x v e = refl
other ReadOnly a y x v e = refl
other ReadWrite a y x v e = rw e refl

-- the bank of an address by whether it lies below a joint: the store went to the bank before the joint ..
before_bytes : (a y x : ℕ) (b b' n o : Bank) (v u : Bool) → u ≡ true → (v ≡ false → (x == a) ≡ false)
    → (bank_meaning b').bytes x ≡ left_at ((bank_meaning b).rights a) a y x ((bank_meaning b).bytes x)
    → (bank_meaning (cond v b' n)).bytes x ≡ left_at ((bank_meaning (cond u b o)).rights a) a y x ((bank_meaning (cond v b n)).bytes x)
before_bytes a y x b b' n o v false p q h = cc
before_bytes a y x b b' n o true true p q h = h
before_bytes a y x b b' n o false true p q h = other _ _ _ _ _ (q refl)

before_rights : (x : ℕ) (b b' n : Bank) (v : Bool) → (bank_meaning b').rights x ≡ (bank_meaning b).rights x → (bank_meaning (cond v b' n)).rights x ≡ (bank_meaning (cond v b n)).rights x
before_rights x b b' n true h = h
before_rights x b b' n false h = refl

-- .. or to one behind it
behind_bytes : (a y x : ℕ) (b n m o : Bank) (v u : Bool) → u ≡ false → (v ≡ true → (x == a) ≡ false)
    → (bank_meaning n).bytes x ≡ left_at ((bank_meaning o).rights a) a y x ((bank_meaning m).bytes x)
    → (bank_meaning (cond v b n)).bytes x ≡ left_at ((bank_meaning (cond u b o)).rights a) a y x ((bank_meaning (cond v b m)).bytes x)
behind_bytes a y x b n m o v true p q h = cc
behind_bytes a y x b n m o false false p q h = h
behind_bytes a y x b n m o true false p q h = other _ _ _ _ _ (q refl)

behind_rights : (x : ℕ) (b n m : Bank) (v : Bool) → (bank_meaning n).rights x ≡ (bank_meaning m).rights x → (bank_meaning (cond v b n)).rights x ≡ (bank_meaning (cond v b m)).rights x
behind_rights x b n m true h = refl
behind_rights x b n m false h = h

-- by which side of a joint at q two addresses lie
apart : (a x q : ℕ) (v : Bool) → nat_lt a q ≡ v → nat_lt x q ≡ cond v false true → (x == a) ≡ false
apart a x q true e f = grind (arith, nat_tests)
apart a x q false e f = grind (arith, nat_tests)

none_passed : (a q k : ℕ) → cond (nat_lt a q) 0 (suc k) ≡ 0 → nat_lt a q ≡ true
none_passed a q k e = grind (arith, nat_tests)

one_passed : (a q k i : ℕ) → cond (nat_lt a q) 0 (suc k) ≡ suc i → (nat_lt a q ≡ false) × (k ≡ i)
one_passed a q k i e = grind (arith, nat_tests)

pub store_first : (a y : ℕ) (b b' : Bank) (js : List Joint) → passed a js ≡ 0 → Stores a y (bank_meaning b) (bank_meaning b') → Stores a y (joined b js) (joined b' js)
store_first a y b b' [] p s = record { rights = s.rights; bytes = s.bytes }
store_first a y b b' (j ∷ js) p s =
    let e : nat_lt a j.at ≡ true = none_passed a j.at (passed a js) p in
    record {
      rights = λ x. before_rights x b b' (answering x j.bank js) (nat_lt x j.at) (s.rights x);
      bytes = λ x. before_bytes a y x b b' (answering x j.bank js) (answering a j.bank js) (nat_lt x j.at) (nat_lt a j.at) e (λ f. apart a x j.at true e f) (s.bytes x);
    }

behind : (a y : ℕ) (b c c' : Bank) (q : ℕ) (js js' : List Joint) → nat_lt a q ≡ false → Stores a y (joined c js) (joined c' js')
    → Stores a y (joined b (record { at = q; bank = c } ∷ js)) (joined b (record { at = q; bank = c' } ∷ js'))
behind a y b c c' q js js' e s =
    record {
      rights = λ x. behind_rights x b (answering x c' js') (answering x c js) (nat_lt x q) (s.rights x);
      bytes = λ x. behind_bytes a y x b (answering x c' js') (answering x c js) (answering a c js) (nat_lt x q) (nat_lt a q) e (λ f. apart a x q false e f) (s.bytes x);
    }

pub store_behind : (a y : ℕ) (b b' : Bank) (js : List Joint) (i : ℕ) (d : Joint) → passed a js ≡ suc i → Stores a y (bank_meaning (slice_index_or js i d).bank) (bank_meaning b')
    → Stores a y (joined b js) (joined b (slice_set js i (record { at = (slice_index_or js i d).at; bank = b' })))
store_behind a y b b' [] i d p s = cc
store_behind a y b b' (j ∷ js) zero d p s =
    let e = one_passed a j.at (passed a js) 0 p in
    behind a y b j.bank b' j.at js js e.0 (store_first a y j.bank b' js e.1 s)
store_behind a y b b' (j ∷ js) (suc i) d p s =
    let e = one_passed a j.at (passed a js) (suc i) p in
    behind a y b j.bank j.bank j.at js (slice_set js i (record { at = (slice_index_or js i d).at; bank = b' })) e.0 (store_behind a y j.bank b' js i d e.1 s)

pub answering_first : (a : ℕ) (b : Bank) (js : List Joint) → passed a js ≡ 0 → answering a b js ≡ b
answering_first a b [] p = refl
answering_first a b (j ∷ js) p = rw (none_passed a j.at (passed a js) p) refl

pub answering_behind : (a : ℕ) (b : Bank) (js : List Joint) (i : ℕ) (d : Joint) → passed a js ≡ suc i → answering a b js ≡ (slice_index_or js i d).bank
answering_behind a b [] i d p = cc
answering_behind a b (j ∷ js) zero d p =
    let e = one_passed a j.at (passed a js) 0 p in
    rw (e.0) (answering_first a j.bank js e.1)
answering_behind a b (j ∷ js) (suc i) d p =
    let e = one_passed a j.at (passed a js) (suc i) p in
    rw (e.0) (answering_behind a j.bank js i d e.1)

-- the same, where the joint was got by its index
pub store_at : (a y : ℕ) (b b' : Bank) (js : List Joint) (i : ℕ) (j : Joint) → passed a js ≡ suc i → j ≡ slice_index_or js i j → Stores a y (bank_meaning j.bank) (bank_meaning b')
    → Stores a y (joined b js) (joined b (slice_set js i (record { at = j.at; bank = b' })))
store_at a y b b' js i j p e s =
    let P : Joint → Type 0 = λ k. Stores a y (bank_meaning k.bank) (bank_meaning b') → Stores a y (joined b js) (joined b (slice_set js i (record { at = k.at; bank = b' }))) in
    subst P (sym e) (store_behind a y b b' js i j p) s

pub answering_at : (a : ℕ) (b : Bank) (js : List Joint) (i : ℕ) (j : Joint) → passed a js ≡ suc i → j ≡ slice_index_or js i j → answering a b js ≡ j.bank
answering_at a b js i j p e = answering_behind a b js i j p ∙ ap (λ k. k.bank) (sym e)

-- the two facts as equations of functions, from a bank's clauses and back
pub stores_by : (a y : ℕ) (old new : Meaning) → new.rights ≡ old.rights → new.bytes ≡ stored (old.rights a) a y old.bytes → Stores a y old new
stores_by a y old new r s = record { rights = λ x. ap (λ f. f x) r; bytes = λ x. ap (λ f. f x) s }

pub stores_rights : (a y : ℕ) (old new : Meaning) → Stores a y old new → new.rights ≡ old.rights
stores_rights a y old new s = λ i x. s.rights x i

pub stores_bytes : (a y : ℕ) (old new : Meaning) → Stores a y old new → new.bytes ≡ stored (old.rights a) a y old.bytes
stores_bytes a y old new s = λ i x. s.bytes x i
