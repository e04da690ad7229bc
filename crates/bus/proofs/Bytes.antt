-- A number whose bytes are written one by one, the lowest first.
use Rattle.std.proofs.Common.{◌≡◌, ℕ, zero, suc, ◌+◌, ◌*◌, ◌^◌, ◌<◌, ◌≤◌, ◌≢◌, List, length, get_or, set, replicate, refl, ap, ◌∙◌, inl, inr, le_refl, add-one, arith, get_or-set_other, get_or-set_same}
use Rattle.std.proofs.lemmas.Bool.{cases_lt}
use Rattle.number.specs.Words.{from_bytes}

-- a byte written later leaves the number of those before it
from_bytes_before : (k n : ℕ) (bs : List ℕ) (b : ℕ) → k ≤ n → from_bytes k (set bs n b) ≡ from_bytes k bs
from_bytes_before zero n bs b h = refl
from_bytes_before (suc k) n bs b h =
    let ne : k ≢ n = omega arith in
    let e : get_or (set bs n b) k 0 ≡ get_or bs k 0 = rw get_or-set_other in
    λ i. from_bytes_before k n bs b (omega arith) i + e i * 256 ^ k

pub from_bytes_more : (k : ℕ) (bs : List ℕ) (b : ℕ) → k < length bs → from_bytes (k + 1) (set bs k b) ≡ from_bytes k bs + b * 256 ^ k
from_bytes_more k bs b h =
    let e : get_or (set bs k b) k 0 ≡ b = rw get_or-set_same in
    ap (λ m. from_bytes m (set bs k b)) (add-one k) ∙ (λ i. from_bytes_before k k bs b (le_refl k) i + e i * 256 ^ k)

-- bytes that are 0 past the first k add nothing
pub from_bytes_all : (k n : ℕ) (bs : List ℕ) → k ≤ n → ((i : ℕ) → k ≤ i → get_or bs i 0 ≡ 0) → from_bytes n bs ≡ from_bytes k bs
from_bytes_all k zero bs h z = let e : 0 ≡ k = omega arith in ap (λ m. from_bytes m bs) e
from_bytes_all k (suc n) bs h z = elim (cases_lt k (suc n)) [
  | inl l ↦ let e : k ≤ n = omega arith in ap (λ b. from_bytes n bs + b * 256 ^ n) (z n e) ∙ (omega arith ∙ from_bytes_all k n bs e z)
  | inr l ↦ let e : suc n ≡ k = omega arith in ap (λ m. from_bytes m bs) e
]

pub zeros : (n k : ℕ) → ◌≡◌ {A = ℕ} (get_or (replicate n 0) k 0) 0
zeros zero k = refl
zeros (suc n) zero = refl
zeros (suc n) (suc k) = zeros n k
