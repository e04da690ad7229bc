-- What is left of an integer modulo a power of two.
use Rattle.std.proofs.Common.{lt_of_lt_of_le, pow_mono, mod-eq_of_lt, ◌≡◌, ℕ, suc, ◌+◌, ◌-◌, ◌*◌, ◌/◌, ◌%◌, ◌^◌, ◌<◌, ◌≤◌, ℤ, pos, negsuc, sym, refl, ap, ◌∙◌, add-mul, one-mul, arith, pow_pos, pow-add, w64, of_z}
use lib.Signed.{mag}
use Rattle.std.proofs.lemmas.Nat.{div_below, mod_below, div-add-mod', mod-mul-add}
use Rattle.number.specs.Words.{residue}

-- counted down from the top of K times M, a number leaves what it leaves counted down from M
flipped : (K M n : ℕ) → 0 < M → n < K * M → (K * M - 1 - n) % M ≡ M - 1 - n % M
flipped K M n m h =
    let q : ℕ = n / M in
    let r : ℕ = n % M in
    let t : ℕ = K - 1 - q in
    let below : n / M < K = div_below n M K m h in
    let low : n % M < M = mod_below n M m in
    let parts : n / M * M + n % M ≡ n = div-add-mod' n M in
    let whole : K ≡ (t + 1) + q = omega arith in
    let spread : K * M ≡ t * M + M + q * M = ap (λ k. k * M) whole ∙ add-mul (t + 1) q M ∙ ap (λ x. x + q * M) (add-mul t 1 M ∙ ap (λ x. t * M + x) (one-mul M)) in
    let count : K * M - 1 - n ≡ t * M + (M - 1 - r) = omega arith in
    let rest : M - 1 - n % M < M = omega arith in
    ap (λ x. x % M) count ∙ mod-mul-add t M (M - 1 - r) rest

-- the low bits of an integer that 64 bits hold
pub low_bits : (w : ℕ) (z : ℤ) → w ≤ 64 → mag z < 2 ^ 63 → of_z w64 z % 2 ^ w ≡ residue w z
low_bits w (pos n) p h = refl
low_bits w (negsuc n) p h =
    let e : (64 - w) + w ≡ 64 = omega arith in
    let whole : 2 ^ 64 ≡ 2 ^ (64 - w) * 2 ^ w = ap (λ k. 2 ^ k) (sym e) ∙ pow-add 2 (64 - w) w in
    let few : n < 2 ^ (64 - w) * 2 ^ w = omega arith in
    let count : 2 ^ 64 - suc n ≡ 2 ^ (64 - w) * 2 ^ w - 1 - n = omega arith in
    ap (λ x. x % 2 ^ w) count ∙ flipped (2 ^ (64 - w)) (2 ^ w) n (pow_pos w) few

-- of all 64 bits the other way, those of a number of w bits are its own the other way
pub complement : (w n : ℕ) → w ≤ 64 → n < 2 ^ w → (2 ^ 64 - 1 - n) % 2 ^ w ≡ 2 ^ w - 1 - n
complement w n p h =
    let e : (64 - w) + w ≡ 64 = omega arith in
    let whole : 2 ^ 64 ≡ 2 ^ (64 - w) * 2 ^ w = ap (λ k. 2 ^ k) (sym e) ∙ pow-add 2 (64 - w) w in
    let all : n < 2 ^ 64 = lt_of_lt_of_le h (pow_mono p) in
    let few : n < 2 ^ (64 - w) * 2 ^ w = omega arith in
    ap (λ x. (x - 1 - n) % 2 ^ w) whole ∙ flipped (2 ^ (64 - w)) (2 ^ w) n (pow_pos w) few ∙ ap (λ r. 2 ^ w - 1 - r) (mod-eq_of_lt h)
