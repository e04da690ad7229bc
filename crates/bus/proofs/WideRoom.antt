-- Bounds of the accesses to numbers of several bytes.
use Rattle.std.proofs.Common.{◌≡◌, ℕ, zero, suc, ◌+◌, ◌*◌, ◌<◌, ◌≤◌, true, sym, refl, ap, ◌∙◌, subst, inl, inr, arith}
use Rattle.std.proofs.lemmas.Bool.{cases_lt}
use Rattle.board.specs.declared.Right.{Right}
use Rattle.board.specs.Meaning.{writable}
use Rattle.board.specs.Block.{above}
use Rattle.number.specs.Words.{byte_of}
use Rattle.bus.specs.Program.{Program, ◌>>=◌, ask_byte, put_byte, times}
use Rattle.bus.specs.Bound.{Filled, unfilled, filled, Next, set_at, Within, Reads}
use Rattle.bus.specs.Wide.{fetch_number, ask_bytes, put_number}
use Rattle.bus.proofs.Room.{within_then, within_at, reads_more, reads_give, reads_fetch, reads_bind, reads_times}

-- a number of n bytes takes n fetches
pub reads_number : (n a : ℕ) → Reads n (fetch_number n a)
unfolding fetch_number
reads_number n a = reads_more (n * 1) n _ (omega arith) (reads_times 1 n _ 0 (λ i low. reads_bind 1 0 _ _ (reads_fetch (above a i)) (λ b. reads_give 0 _)))

-- after the asking, each of the bytes may be stored
abbrev pub Asked : (ℕ → Right) → ℕ → Filled → ℕ → ℕ → ℕ → Filled → Unit {0} → Type 0
Asked rights m s n a k u _ = (k ≡ m) × (u ≡ s) × ((i : ℕ) → i < n → writable (rights (above a i)) ≡ true)

pub asked : (rights : ℕ → Right) (m : ℕ) (s : Filled) (n a : ℕ) → Within rights m s (ask_bytes n a) (Asked rights m s n a)
unfolding ask_bytes times Within
asked rights m s zero a = (refl, refl, λ i h. absurd (omega arith))
asked rights m s (suc n) a =
    within_then rights m s _ (λ _. ask_byte (above a n)) (Asked rights m s n a) (Asked rights m s (suc n) a) (asked rights m s n a)
    (λ k u _ q w. (q.0, q.1, λ i h. elim (cases_lt i n) [ inl l ↦ q.2 i l | inr l ↦ let e : i ≡ n = omega arith in subst (λ j. writable (rights (above a j)) ≡ true) (sym e) w ]))

-- n bytes set from base on
abbrev pub filling : ℕ → ℕ → Filled
filling base zero = unfilled
filling base (suc n) = filled (above base 0) (suc n)

next_filling : (base n : ℕ) → n < 256 → Next (filling base n) (above base n)
next_filling base zero h = omega arith
next_filling base (suc n) h = (omega arith, h)

set_filling : (base n : ℕ) → set_at (filling base n) (above base n) ≡ filling base (suc n)
set_filling base zero = refl
set_filling base (suc n) = refl

-- setting a number right after j bytes from base on
abbrev pub Put : ℕ → Filled → ℕ → Filled → Unit {0} → Type 0
Put m s k u _ = (k ≡ m) × (u ≡ s)

pub puts : (rights : ℕ → Right) (m base j n a x : ℕ) → above base j ≡ above a 0 → j + n ≤ 256 → ((i : ℕ) → i < n → writable (rights (above a i)) ≡ true) → Within rights m (filling base j) (put_number n a x) (Put m (filling base (j + n)))
unfolding put_number times Within
puts rights m base j zero a x e h w = (refl, ap (filling base) (omega arith))
puts rights m base j (suc n) a x e h w =
    let here : above base (j + n) ≡ above a n = omega arith in
    let l : j + n < 256 = omega arith in
    let more : suc (j + n) ≡ j + suc n = omega arith in
    within_then rights m (filling base j) _ (λ _. put_byte (above a n) (byte_of x n)) (Put m (filling base (j + n))) (Put m (filling base (j + suc n))) (puts rights m base j n a x e (omega arith) (λ i l. w i (omega arith)))
    (λ k u _ q. (
      w n (omega arith),
      subst (λ z. Next z (above a n)) (sym q.1) (subst (Next (filling base (j + n))) here (next_filling base (j + n) l)),
      (q.0, ap (λ z. set_at z (above a n)) q.1 ∙ (ap (set_at (filling base (j + n))) (sym here) ∙ (set_filling base (j + n) ∙ ap (filling base) more))),
    ))

-- what comes after the asking has the rights
pub within_asked : {B : Type 0} (rights : ℕ → Right) (m : ℕ) (s : Filled) (n a : ℕ) (f : Unit {0} → Program B) (Q : ℕ → Filled → B → Type 0) → (((i : ℕ) → i < n → writable (rights (above a i)) ≡ true) → Within rights m s (f tt) Q) → Within rights m s (ask_bytes n a >>= f) Q
within_asked rights m s n a f Q h =
    within_then rights m s (ask_bytes n a) f (Asked rights m s n a) Q (asked rights m s n a)
    (λ k u _ q. within_at rights k s u (f tt) Q q.1 (subst (λ z. Within rights z s (f tt) Q) (sym q.0) (h q.2)))

-- a number stored right after j bytes from base on: the rights first, then its bytes
pub stores : (rights : ℕ → Right) (m base j n a x : ℕ) → above base j ≡ above a 0 → j + n ≤ 256 → Within rights m (filling base j) (ask_bytes n a >>= λ _. put_number n a x) (Put m (filling base (j + n)))
stores rights m base j n a x e h = within_asked rights m (filling base j) n a (λ _. put_number n a x) (Put m (filling base (j + n))) (λ w. puts rights m base j n a x e h w)
