-- Numbers that are kept within a limit while they are read.
use Rattle.std.proofs.Common.{◌≡◌, ℕ, ◌+◌, ◌*◌, ◌<◌, min, length, drop, get_or, drop-cons, add-one, List, [], ◌∷◌, Option, Some, None, option_map, refl, ap, arith}
use Rattle.std.specs.Prelude.{option_and_then}
use Rattle.script.specs.Numbers.{digit_of, with_digits}

-- of two numbers that agree up to the limit, the digits after them make numbers that do
pub capped : (limit a b : ℕ) (bs : List ℕ) → min a limit ≡ min b limit → option_map (λ n. min n limit) (with_digits a bs) ≡ option_map (λ n. min n limit) (with_digits b bs)
capped limit a b [] h = ap Some h
capped limit a b (c ∷ cs) h = by (digit_of c) (λ d. capped limit (16 * a + d) (16 * b + d) cs (omega arith)) where
  by : (o : Option ℕ) → ((d : ℕ) → option_map (λ n. min n limit) (with_digits (16 * a + d) cs) ≡ option_map (λ n. min n limit) (with_digits (16 * b + d) cs))
      → option_map (λ n. min n limit) (option_and_then (λ d. with_digits (16 * a + d) cs) o) ≡ option_map (λ n. min n limit) (option_and_then (λ d. with_digits (16 * b + d) cs) o)
  by None more = refl
  by (Some d) more = more d

-- one digit more is read
pub read_one : (n d : ℕ) (word : List ℕ) (i : ℕ) → i < length word → digit_of (get_or word i 0) ≡ Some d → with_digits n (drop i word) ≡ with_digits (16 * n + d) (drop (i + 1) word)
read_one n d word i lt e = rw (drop-cons word i 0, e, add-one) refl
