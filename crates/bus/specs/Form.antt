-- The one form in which a list of bytes set, each with its address, is kept: what is not used is 0, so that the list tells the fields.
use Rattle.std.specs.Prelude.{◌≡◌, ℕ, suc, ◌-◌, ◌%◌, ◌^◌, ◌<◌, ◌≤◌, List, [], ◌∷◌, ◌++◌, length, take, drop, map, replicate, refl}
use Rattle.std.proofs.Common.{sym, ap, subst, ◌∙◌, length-take-le, take-append-drop}
use Rattle.std.proofs.Math.Nat.{add-zero, mod-eq_of_lt}
use Rattle.bus.specs.Buffer.{cells, buffered}

-- the first n bytes from base on are set
pub record OneForm (base n : ℕ) (bytes : List ℕ) : Type 0 where
  pub low : base < 2 ^ 32
  pub few : n ≤ 256
  pub all : length bytes ≡ 256
  pub unused : drop n bytes ≡ replicate (256 - n) 0
  pub unset : n ≡ 0 → base ≡ 0

-- the address that the bytes set begin at
abbrev pub base_of : List (ℕ × ℕ) → ℕ
base_of [] = 0
base_of (c ∷ cs) = c.0

-- they, and what is not used
abbrev pub bytes_of : List (ℕ × ℕ) → List ℕ
bytes_of cs = map (λ c. c.1) cs ++ replicate (256 - length cs) 0

-- ---- the list tells the fields
pub length_cells : (base i : ℕ) (bs : List ℕ) → length (cells base i bs) ≡ length bs
length_cells base i [] = refl
length_cells base i (b ∷ bs) = ap suc (length_cells base (suc i) bs)

pub length_buffered : (base n : ℕ) (bytes : List ℕ) → n ≤ length bytes → length (buffered base n bytes) ≡ n
length_buffered base n bytes h = length_cells base 0 (take n bytes) ∙ length-take-le n bytes h

base_cells : (base : ℕ) (bs : List ℕ) → base < 2 ^ 32 → (length bs ≡ 0 → base ≡ 0) → base_of (cells base 0 bs) ≡ base
base_cells base [] l z = sym (z refl)
base_cells base (b ∷ bs) l z = ap (λ k. k % 2 ^ 32) (add-zero base) ∙ mod-eq_of_lt l

map_cells : (base i : ℕ) (bs : List ℕ) → map (λ c. c.1) (cells base i bs) ≡ bs
map_cells base i [] = refl
map_cells base i (b ∷ bs) = ap (λ xs. b ∷ xs) (map_cells base (suc i) bs)

module _ (base n : ℕ) (bytes : List ℕ) (h : OneForm base n bytes) where
  pub within : n ≤ length bytes
  within = subst (λ k. n ≤ k) (sym h.all) h.few

  pub base_again : base_of (buffered base n bytes) ≡ base
  base_again = base_cells base (take n bytes) h.low (λ z. h.unset (sym (length-take-le n bytes within) ∙ z))

  pub length_again : length (buffered base n bytes) ≡ n
  length_again = length_buffered base n bytes within

  pub bytes_again : bytes_of (buffered base n bytes) ≡ bytes
  bytes_again = (λ i. map_cells base 0 (take n bytes) i ++ replicate (256 - length_again i) 0) ∙ (ap (λ xs. take n bytes ++ xs) (sym h.unused) ∙ take-append-drop n bytes)
