-- Numbers divided and multiplied by powers of two.
use Rattle.std.proofs.Common.{le_of_suc-le-suc, inl, inr, Option, Some, None, SomeIff, unwrap_or, min, ◌≡◌, ℕ, zero, suc, ◌+◌, ◌-◌, ◌*◌, ◌/◌, ◌%◌, ◌^◌, ◌<◌, ◌≤◌, false, eqb, ℤ, pos, negsuc, sym, ap, ◌∙◌, subst, lt_of_lt_of_le, add-zero, mod-eq_of_lt, mul_assoc, add_comm, mul-one, div-one, arith, pow_mono, pow-add, shr-shr, w32, SFits}
use native.Mathlib.Nat.{div-eq_of_lt, mul-mod_left, mod_self, pow-le-pow_right, sub-zero, zero-div, zero-mod}
use lib.Pow.{mod-mod-pow, mod-pow-add, field, shl-shr}
use lib.Signed.{shr_z}
use lib.Bits.{bit_or, or_shifted, or_self}
use Rattle.std.proofs.lemmas.Nat.{shr_below}
use Rattle.std.proofs.lemmas.Bool.{cases_lt}
use Rattle.std.proofs.Math.Nat.{lt_of_not-le}
use Rattle.number.specs.Words.{bit}
use Rattle.number.specs.Outcomes.{turned}

-- nothing of w bits is left past their end
pub far : (n w k : ℕ) → n < 2 ^ w → w ≤ k → n / 2 ^ k ≡ 0
far n w k h p = div-eq_of_lt (lt_of_lt_of_le h (pow_mono p))

-- what a shift gives that is asked whether it knows the distance
pub down : (o : Option ℕ) (n k : ℕ) → n < 2 ^ 64 → SomeIff o (k < 64) (n / 2 ^ k) → unwrap_or o 0 ≡ n / 2 ^ k
down None n k h p = sym (far n 64 k h (le_of_suc-le-suc (lt_of_not-le p)))
down (Some x) n k h p = p.1

far_min : (n k : ℕ) → n < 2 ^ 31 → n / 2 ^ min k 31 ≡ n / 2 ^ k
far_min n k h =
    elim (cases_lt k 31) [
      | inr p ↦ let e : min k 31 ≡ 31 = omega arith in ap (λ j. n / 2 ^ j) e ∙ far n 31 31 h (omega arith) ∙ sym (far n 31 k h p)
      | inl p ↦ let e : min k 31 ≡ k = omega arith in ap (λ j. n / 2 ^ j) e
    ]

-- the low bits of a number of v bits are those of the whole
pub low_of : (x v w : ℕ) → w ≤ v → x % 2 ^ v % 2 ^ w ≡ x % 2 ^ w
low_of x v w p = let e : (v - w) + w ≡ v = omega arith in subst (λ (u : ℕ). x % 2 ^ u % 2 ^ w ≡ x % 2 ^ w) e (mod-mod-pow x (v - w) w)

-- and so is each of its bits
pub bit_low : (x v w : ℕ) → w < v → bit w (x % 2 ^ v) ≡ bit w x
bit_low x v w p =
    let e : (v - w) + w ≡ v = omega arith in
    let one : 1 ≤ v - w = omega arith in
    ap (λ n. eqb n 1) (subst (λ (u : ℕ). x % 2 ^ u / 2 ^ w % 2 ≡ x / 2 ^ w % 2) e (ap (λ n. n % 2) (field x (v - w) w) ∙ low_of (x / 2 ^ w) (v - w) 1 one))

-- a number that is moved up by w bits or more has none of them left
pub gone : (n w k : ℕ) → w ≤ k → n * 2 ^ k % 2 ^ w ≡ 0
gone n w k p =
    let e : (k - w) + w ≡ k = omega arith in
    subst (λ (j : ℕ). n * 2 ^ j % 2 ^ w ≡ 0) e
    (ap (λ m. n * m % 2 ^ w) (pow-add 2 (k - w) w) ∙ ap (λ m. m % 2 ^ w) (sym (mul_assoc n (2 ^ (k - w)) (2 ^ w))) ∙ mul-mod_left (n * 2 ^ (k - w)) (2 ^ w))

pub bit_none : (w : ℕ) → bit w 0 ≡ false
bit_none w = ap (λ m. eqb (m % 2) 1) (zero-div (2 ^ w))

-- moved up by more than w bits, it has none in the next one either
pub bit_gone : (n w k : ℕ) → w < k → bit w (n * 2 ^ k) ≡ false
bit_gone n w k p =
    let e : ((k - w - 1) + 1) + w ≡ k = omega arith in
    let j : ℕ = k - w - 1 in
    let rest : n * 2 ^ k / 2 ^ w ≡ n * 2 ^ (j + 1) = subst (λ (i : ℕ). n * 2 ^ i / 2 ^ w ≡ n * 2 ^ (j + 1)) e (ap (λ m. m / 2 ^ w) (ap (λ m. n * m) (pow-add 2 (j + 1) w) ∙ sym (mul_assoc n (2 ^ (j + 1)) (2 ^ w))) ∙ shl-shr (n * 2 ^ (j + 1)) w) in
    let even : n * 2 ^ (j + 1) % 2 ≡ 0 = gone n 1 (j + 1) (omega arith) in
    ap (λ m. eqb m 1) (ap (λ m. m % 2) rest ∙ even)

-- no byte is left past a number's end
pub far_byte : (n size i : ℕ) → n < 256 ^ size → size ≤ i → 0 ≡ n / 256 ^ i % 256
far_byte n size i h p =
    let some : 0 < 256 = omega arith in
    sym (ap (λ q. q % 256) (div-eq_of_lt (lt_of_lt_of_le h (pow-le-pow_right some p))))

-- and to the left, of which 64 bits are kept
pub up_low : (o : Option ℕ) (n k w : ℕ) → w ≤ 64 → SomeIff o (k < 64) (n * 2 ^ k % 2 ^ 64) → unwrap_or o 0 % 2 ^ w ≡ n * 2 ^ k % 2 ^ w
up_low None n k w p e = let q : 64 ≤ k = le_of_suc-le-suc (lt_of_not-le e) in zero-mod (2 ^ w) ∙ sym (gone n w k (omega arith))
up_low (Some x) n k w p e = ap (λ m. m % 2 ^ w) e.1 ∙ low_of (n * 2 ^ k) 64 w p

pub up_next : (o : Option ℕ) (n k w : ℕ) → w < 64 → SomeIff o (k < 64) (n * 2 ^ k % 2 ^ 64) → bit w (unwrap_or o 0) ≡ bit w (n * 2 ^ k)
up_next None n k w p e = let q : 64 ≤ k = le_of_suc-le-suc (lt_of_not-le e) in bit_none w ∙ sym (bit_gone n w k (omega arith))
up_next (Some x) n k w p e = ap (bit w) e.1 ∙ bit_low (n * 2 ^ k) 64 w p

module _ (n j k : ℕ) where
  -- n moved up by k, of which j + k bits are kept: the low j bits of n
  kept : n * 2 ^ k % 2 ^ (j + k) ≡ n % 2 ^ j * 2 ^ k
  kept =
      mod-pow-add (n * 2 ^ k) j k
      ∙ ap (λ x. x % 2 ^ j * 2 ^ k + n * 2 ^ k % 2 ^ k) (shl-shr n k)
      ∙ ap (λ x. n % 2 ^ j * 2 ^ k + x) (mul-mod_left n (2 ^ k)) ∙ add-zero (n % 2 ^ j * 2 ^ k)

  -- and the others are what passes the top
  passed : n * 2 ^ k / 2 ^ (j + k) ≡ n / 2 ^ j
  passed =
      ap (λ x. n * 2 ^ k / 2 ^ x) (add_comm j k) ∙ sym (shr-shr (n * 2 ^ k) k j) ∙ ap (λ x. x / 2 ^ j) (shl-shr n k)

  joined : n < 2 ^ (j + k) → bit_or (n * 2 ^ k % 2 ^ (j + k)) (n / 2 ^ j) ≡ turned (j + k) n k
  joined h =
      let top : n / 2 ^ j < 2 ^ k = shr_below n k j (rw add_comm h) in
      ap (λ x. bit_or x (n / 2 ^ j)) kept ∙ or_shifted (n % 2 ^ j) k (n / 2 ^ j) top
      ∙ ap (λ x. x + n / 2 ^ j) (sym kept) ∙ ap (λ x. n * 2 ^ k % 2 ^ (j + k) + x) (sym passed)

-- a number's own rotation, by fewer bits than it has, turns it
pub turns : (w n k : ℕ) → n < 2 ^ w → k < w → bit_or (n * 2 ^ k % 2 ^ w) (n / 2 ^ ((w - k) % w)) ≡ turned w n k
turns w n zero h p =
    let all : (w - 0) % w ≡ 0 = ap (λ x. x % w) (sub-zero w) ∙ mod_self w in
    let low : n * 1 % 2 ^ w ≡ n = ap (λ x. x % 2 ^ w) (mul-one n) ∙ mod-eq_of_lt h in
    let high : n * 1 / 2 ^ w ≡ 0 = ap (λ x. x / 2 ^ w) (mul-one n) ∙ div-eq_of_lt h in
    let self : bit_or n n ≡ n = or_self n in
    let one : n / 1 ≡ n = div-one n in
    let more : n + 0 ≡ n = add-zero n in
    ap (λ x. bit_or (n * 1 % 2 ^ w) (n / 2 ^ x)) all ∙ (cc)
turns w n (suc k) h p =
    let e : (w - suc k) + suc k ≡ w = omega arith in
    let less : w - suc k < w = omega arith in
    rw (mod-eq_of_lt less)
    (subst (λ (v : ℕ). n < 2 ^ v → bit_or (n * 2 ^ suc k % 2 ^ v) (n / 2 ^ (w - suc k)) ≡ turned v n (suc k)) e (joined n (w - suc k) (suc k)) h)

-- an integer that 32 bits hold has only its sign past bit 31
pub far_signed : (z : ℤ) (k : ℕ) → SFits w32 z → shr_z z (2 ^ min k 31) ≡ shr_z z (2 ^ k)
far_signed (pos n) k f = ap pos (far_min n k f.sfits)
far_signed (negsuc n) k f = ap negsuc (far_min n k f.sfits)
