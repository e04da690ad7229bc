-- The bytes of a number, and the number that bytes make.
use Rattle.std.proofs.Common.{◌≡◌, ℕ, zero, suc, ◌+◌, ◌-◌, ◌*◌, ◌%◌, ◌^◌, ◌<◌, ◌≤◌, List, get_or, w64, inl, inr, sym, refl, ap, ◌∙◌, subst, div-one, mod-eq_of_lt, mul_assoc, mul-le-mul_right, pow-add, arith}
use Rattle.std.proofs.Math.Nat.{pow-suc, eq-or-lt_of_le, add-mul-mod_self_right}
use Rattle.std.specs.Int.{to_le_bytes, from_le_bytes}
use Rattle.number.specs.Words.{byte_of, from_bytes}
use Rattle.number.proofs.Powers.{far_byte}

two_256 : (k : ℕ) → 2 ^ (8 * k) ≡ 256 ^ k
two_256 zero = refl
two_256 (suc k) = let e : 8 * suc k ≡ 8 * k + 8 = omega arith in ap (λ x. 2 ^ x) e ∙ pow-add 2 (8 * k) 8 ∙ ap (λ x. x * 256) (two_256 k) ∙ sym (pow-suc 256 k)

-- each place of a number's eight bytes, and each place past them
pub byte_at_place : (n i : ℕ) → n < 2 ^ 64 → get_or (to_le_bytes w64 n) i 0 ≡ byte_of n i
byte_at_place n zero h = ap (λ q. q % 256) (sym (div-one n))
byte_at_place n (suc zero) h = refl
byte_at_place n (suc (suc zero)) h = refl
byte_at_place n (suc (suc (suc zero))) h = refl
byte_at_place n (suc (suc (suc (suc zero)))) h = refl
byte_at_place n (suc (suc (suc (suc (suc zero))))) h = refl
byte_at_place n (suc (suc (suc (suc (suc (suc zero)))))) h = refl
byte_at_place n (suc (suc (suc (suc (suc (suc (suc zero))))))) h = refl
byte_at_place n (suc (suc (suc (suc (suc (suc (suc (suc i)))))))) h = far_byte n 8 (suc (suc (suc (suc (suc (suc (suc (suc i)))))))) h (omega arith)

module _ (bytes : List ℕ) (fit : (i : ℕ) → get_or bytes i 0 < 256) where
  below : (k : ℕ) → from_bytes k bytes < 256 ^ k
  below zero = omega arith
  below (suc k) =
      let low : from_bytes k bytes < 256 ^ k = below k in
      let b : get_or bytes k 0 ≤ 255 = let f = fit k in omega arith in
      let high : get_or bytes k 0 * 256 ^ k ≤ 255 * 256 ^ k = mul-le-mul_right (256 ^ k) b in
      let next : 256 ^ suc k ≡ 256 ^ k * 256 = pow-suc 256 k in
      omega arith

  -- of the number of k bytes, the low part is the number of the first j
  first : (j k : ℕ) → j ≤ k → from_bytes k bytes % 256 ^ j ≡ from_bytes j bytes
  first j zero p = let e : j ≡ 0 = omega arith in subst (λ (i : ℕ). from_bytes 0 bytes % 256 ^ i ≡ from_bytes i bytes) (sym e) refl
  first j (suc k) p =
      elim (eq-or-lt_of_le p) [
        | inl e ↦ subst (λ (i : ℕ). from_bytes (suc k) bytes % 256 ^ i ≡ from_bytes i bytes) (sym e) (mod-eq_of_lt (below (suc k)))
        | inr l ↦
            let q : j ≤ k = omega arith in
            let parts : 256 ^ k ≡ 256 ^ (k - j) * 256 ^ j = let e : (k - j) + j ≡ k = omega arith in ap (λ x. 256 ^ x) (sym e) ∙ pow-add 256 (k - j) j in
            ap (λ x. (from_bytes k bytes + x) % 256 ^ j) (ap (λ x. get_or bytes k 0 * x) parts ∙ sym (mul_assoc (get_or bytes k 0) (256 ^ (k - j)) (256 ^ j)))
            ∙ add-mul-mod_self_right (from_bytes k bytes) (get_or bytes k 0 * 256 ^ (k - j)) (256 ^ j)
            ∙ first j k q
      ]

  whole : from_le_bytes w64 bytes ≡ from_bytes 8 bytes
  whole = omega arith

  -- the number that the first bytes of eight make is the low part of what all make
  pub low_bytes : (size : ℕ) → size ≤ 8 → from_le_bytes w64 bytes % 2 ^ (8 * size) ≡ from_bytes size bytes
  low_bytes size p = ap (λ m. from_le_bytes w64 bytes % m) (two_256 size) ∙ ap (λ n. n % 256 ^ size) whole ∙ first size 8 p
