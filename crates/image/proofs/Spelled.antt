-- The bytes that digits spell, by their places.
use Rattle.std.proofs.Common.{◌≡◌, ℕ, zero, suc, ◌+◌, ◌*◌, ◌-◌, ◌/◌, ◌<◌, ◌≤◌, List, [], ◌∷◌, length, get_or, take, drop, refl, ap, ◌∙◌, arith}
use Rattle.std.proofs.lemmas.List.{get_or_past}
use Rattle.image.specs.Digits.{spelled, pair}

pub length_spelled : (digits : List ℕ) → length (spelled digits) ≡ length digits / 2
length_spelled [] = refl
length_spelled (h ∷ []) = refl
length_spelled (h ∷ l ∷ ds) = omega (arith, length_spelled ds)

pub spelled_at : (digits : List ℕ) (i : ℕ) → 2 * i + 1 < length digits → get_or (spelled digits) i 0 ≡ pair (get_or digits (2 * i) 0) (get_or digits (2 * i + 1) 0)
spelled_at [] i h = absurd (omega arith)
spelled_at (a ∷ []) i h = absurd (omega arith)
spelled_at (a ∷ b ∷ ds) zero h = refl
spelled_at (a ∷ b ∷ ds) (suc i) h =
    let e : 2 * suc i ≡ suc (suc (2 * i)) = omega arith in
    let f : suc (suc (2 * i)) + 1 ≡ suc (suc (2 * i + 1)) = omega arith in
    rw (e, f) (spelled_at ds i (omega arith))

pub spelled_drop : (digits : List ℕ) (n : ℕ) → spelled (drop (2 * n) digits) ≡ drop n (spelled digits)
spelled_drop ds zero = refl
spelled_drop [] (suc n) = rw (let e : 2 * suc n ≡ suc (suc (2 * n)) = omega arith in e) refl
spelled_drop (a ∷ []) (suc n) = rw (let e : 2 * suc n ≡ suc (suc (2 * n)) = omega arith in e) refl
spelled_drop (a ∷ b ∷ ds) (suc n) = rw (let e : 2 * suc n ≡ suc (suc (2 * n)) = omega arith in e) (spelled_drop ds n)

pub spelled_take : (digits : List ℕ) (n : ℕ) → spelled (take (2 * n) digits) ≡ take n (spelled digits)
spelled_take ds zero = refl
spelled_take [] (suc n) = rw (let e : 2 * suc n ≡ suc (suc (2 * n)) = omega arith in e) refl
spelled_take (a ∷ []) (suc n) = rw (let e : 2 * suc n ≡ suc (suc (2 * n)) = omega arith in e) refl
spelled_take (a ∷ b ∷ ds) (suc n) = rw (let e : 2 * suc n ≡ suc (suc (2 * n)) = omega arith in e) (ap (λ (bs : List ℕ). pair a b ∷ bs) (spelled_take ds n))

pub spelled_part : (digits : List ℕ) (place count : ℕ) → spelled (take (2 * (place + count) - 2 * place) (drop (2 * place) digits)) ≡ take count (drop place (spelled digits))
spelled_part ds place count =
    let e : 2 * (place + count) - 2 * place ≡ 2 * count = omega arith in
    rw e (spelled_take (drop (2 * place) ds) count ∙ ap (take count) (spelled_drop ds place))

pub spelled_past : (digits : List ℕ) (i : ℕ) → length digits ≤ 2 * i + 1 → get_or (spelled digits) i 0 ≡ 0
spelled_past ds i h = get_or_past (spelled ds) i 0 (omega (arith, length_spelled ds))
