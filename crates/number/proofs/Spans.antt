-- When the product of a signed number and a power of two is a signed number of the width.
use Rattle.std.proofs.Common.{Bool, true, false, SFits, w32, lt_of_lt_of_le, pow_mono, ◌≡◌, ℕ, zero, suc, ◌-◌, ◌*◌, ◌/◌, ◌^◌, ◌<◌, ◌≤◌, cond, ltb, leb, ℤ, pos, negsuc, ◌-ℤ◌, ◌*ℤ◌, neg_ℤ, sym, refl, ap, ◌∙◌, le_trans, mul-le-mul_right, div-mul-le_self, arith, pow_pos}
use Rattle.std.proofs.lemmas.Nat.{le-div, mul-le}
use Rattle.std.proofs.lemmas.Int.{ints}
use Rattle.std.proofs.lemmas.Bool.{ltb-true, leb-true, le-leb, lt-ltb, le-ltb}
use Rattle.std.proofs.lemmas.Bool.Decides.{same_from_decides, nat_tests}
use Rattle.std.specs.Int.{from_bool}
use Rattle.number.specs.Words.{signed, fits}

-- x times d is within a limit where x is within the limit divided by d
within : (x d l : ℕ) → 0 < d → leb x (l / d) ≡ leb (x * d) l
within x d l p =
    same_from_decides (leb x (l / d)) (leb (x * d) l) (leb-true x (l / d), le-leb x (l / d))
    ((λ h. le-div x l d p (leb-true (x * d) l h)), (λ h. le-leb (x * d) l (le_trans (mul-le-mul_right d h) (div-mul-le_self l d))))

signed_above : (w n : ℕ) → n < 2 ^ (w - 1) → signed w n ≡ pos n
signed_above w n h = ap (λ b. cond b (pos n) (pos n -ℤ pos (2 ^ w))) (lt-ltb n (2 ^ (w - 1)) h)

signed_below : (w n : ℕ) → 2 ^ (w - 1) ≤ n → n < 2 ^ w → signed w n ≡ negsuc (2 ^ w - suc n)
signed_below w n h p = ap (λ b. cond b (pos n) (pos n -ℤ pos (2 ^ w))) (le-ltb n (2 ^ (w - 1)) h) ∙ omega (arith, ints)

neg_fits : (w x : ℕ) → 0 < x → leb x (2 ^ (w - 1)) ≡ fits w (neg_ℤ (pos x))
neg_fits w zero p = absurd (omega arith)
neg_fits w (suc x) p = refl

pub fits_above : (w v k n H : ℕ) {q : ℕ} → n ≡ v → H ≡ 2 ^ (w - 1) → n < H → q ≡ (H - 1) / 2 ^ k → leb n q ≡ fits w (signed w v *ℤ pos (2 ^ k))
fits_above w v k n H e f h g =
    let up : v < 2 ^ (w - 1) = omega arith in
    let limit : leb (v * 2 ^ k) (2 ^ (w - 1) - 1) ≡ ltb (v * 2 ^ k) (2 ^ (w - 1)) = grind (arith, nat_tests) in
    let start : leb n ((H - 1) / 2 ^ k) ≡ leb v ((2 ^ (w - 1) - 1) / 2 ^ k) = (cc) in
    ap (λ x. leb n x) g ∙ start ∙ within v (2 ^ k) (2 ^ (w - 1) - 1) (pow_pos k) ∙ limit ∙ ap (λ z. fits w (z *ℤ pos (2 ^ k))) (sym (signed_above w v up))

pub fits_below : (w v k n H M : ℕ) {q : ℕ} → n ≡ v → H ≡ 2 ^ (w - 1) → M ≡ 2 ^ w → n < 2 ^ w → H ≤ n → q ≡ H / 2 ^ k → leb (M - n) q ≡ fits w (signed w v *ℤ pos (2 ^ k))
fits_below w v k n H M e f m p h g =
    let down : 2 ^ (w - 1) ≤ v = omega arith in
    let top : v < 2 ^ w = omega arith in
    let x : ℕ = 2 ^ w - suc v in
    let count : M - n ≡ suc (2 ^ w - suc v) = omega arith in
    let some : 0 < suc x * 2 ^ k = omega (arith, mul-le 1 1 (suc x) (2 ^ k) (omega arith) (pow_pos k)) in
    ap (λ y. leb (M - n) y) g ∙ ap (λ y. leb y (H / 2 ^ k)) count ∙ ap (λ y. leb (suc x) (y / 2 ^ k)) f
    ∙ within (suc x) (2 ^ k) (2 ^ (w - 1)) (pow_pos k) ∙ neg_fits w (suc x * 2 ^ k) some
    ∙ ap (λ z. fits w (z *ℤ pos (2 ^ k))) (sym (signed_below w v down top))

-- a signed number of a width is one of a word, where the width is no wider
pub fits_word : (w : ℕ) (z : ℤ) → w ≤ 32 → fits w z ≡ true → SFits w32 z
fits_word w (pos n) p h = record { sfits = lt_of_lt_of_le (ltb-true n (2 ^ (w - 1)) h) (pow_mono {j = 31} (omega arith)) }
fits_word w (negsuc n) p h = record { sfits = lt_of_lt_of_le (ltb-true n (2 ^ (w - 1)) h) (pow_mono {j = 31} (omega arith)) }

-- a flag, as a number
pub flag : (b : Bool) → from_bool b ≤ 1
flag true = omega arith
flag false = omega arith
