-- The rule of the conditions' table, as one test over the whole table that antt computes.
use Rattle.std.proofs.Common.{◌≡◌, ℕ, zero, suc, ◌+◌, ◌<◌, Bool, true, false, not, ◌&&◌, T, List, [], ◌∷◌, length, get_or, sym, refl, ◌∙◌, subst, le_of_suc-le-suc, not-suc-le-zero, add-zero, add-suc, suc-add, zero-add}
use Rattle.number.specs.Words.{bit}
use Rattle.number.specs.Conditions.{conditions, number_of, differ}
use Rattle.number.specs.declared.flags.Flags.{Flags}

both_left : (a b : Bool) → T (a && b) → T a
both_left true b t = tt
both_left false b t = t

both_right : (a b : Bool) → T (a && b) → T b
both_right true b t = t
both_right false b t = absurd t

-- the test f passes at each entry of the list and its place, counted from i
abbrev every : (ℕ → ℕ → Bool) → ℕ → List ℕ → Bool
every f i [] = true
every f i (x ∷ xs) = f i x && every f (suc i) xs

from : (f : ℕ → ℕ → Bool) (xs : List ℕ) (i : ℕ) → T (every f i xs) → (k : ℕ) → k < length xs → T (f (i + k) (get_or xs k 0))
from f [] i t k h = absurd (not-suc-le-zero h)
from f (x ∷ xs) i t zero h = subst (λ (m : ℕ). T (f m x)) (sym (add-zero i)) (both_left (f i x) (every f (suc i) xs) t)
from f (x ∷ xs) i t (suc k) h =
    subst (λ (m : ℕ). T (f m (get_or xs k 0))) (suc-add i k ∙ sym (add-suc i k))
    (from f xs (suc i) (both_right (f i x) (every f (suc i) xs) t) k (le_of_suc-le-suc h))

-- a test passes at both values of a flag
abbrev either_way : (Bool → Bool) → Bool
either_way p = p true && p false

at_flag : (p : Bool → Bool) → T (either_way p) → (b : Bool) → T (p b)
at_flag p t true = both_left (p true) (p false) t
at_flag p t false = both_right (p true) (p false) t

alike : (a b : Bool) → T (not (differ a b)) → a ≡ b
alike true true t = refl
alike true false t = absurd t
alike false true t = absurd t
alike false false t = refl

abbrev flags_at : Bool → Bool → Bool → Bool → Flags
flags_at cy ov s z = record { cy = cy; ov = ov; s = s; z = z }

-- entry x is right for condition i at these flags
abbrev right_at : ℕ → ℕ → Flags → Bool
right_at i x f = not (differ (bit (number_of f) x) (get_or (conditions f) i false))

-- and at all flags
abbrev pub right : ℕ → ℕ → Bool
right i x = either_way (λ cy. either_way (λ ov. either_way (λ s. either_way (λ z. right_at i x (flags_at cy ov s z)))))

right_for : (i x : ℕ) → T (right i x) → (f : Flags) → T (right_at i x f)
right_for i x t f =
    at_flag (λ z. right_at i x (flags_at f.cy f.ov f.s z))
    (at_flag (λ s. either_way (λ z. right_at i x (flags_at f.cy f.ov s z)))
    (at_flag (λ ov. either_way (λ s. either_way (λ z. right_at i x (flags_at f.cy ov s z))))
    (at_flag (λ cy. either_way (λ ov. either_way (λ s. either_way (λ z. right_at i x (flags_at cy ov s z))))) t
    f.cy) f.ov) f.s) f.z

-- where the test passes at each entry, each bit of an entry says whether its condition holds
pub rule : (f : Flags) (i : ℕ) (xs : List ℕ) → T (every right 0 xs) → i < length xs → bit (number_of f) (get_or xs i 0) ≡ get_or (conditions f) i false
rule f i xs t h = alike _ _ (right_for i (get_or xs i 0) (subst (λ (m : ℕ). T (right m (get_or xs i 0))) (zero-add i) (from right xs 0 t i h)) f)
