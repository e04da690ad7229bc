-- A loop that found what it looked for.
use Rattle.std.proofs.Common.{◌≡◌, ℕ, zero, suc, ◌≤◌, Ok, refl, subst, inl, inr, arith}
use Rattle.std.proofs.lemmas.Bool.{cases_lt}
use Rattle.bus.specs.Program.{Program, give, times}
use Rattle.bus.specs.Seen.{Seen, Runs}
use Rattle.bus.proofs.Laws.{goes_on, gives, by_case}

-- turns that leave y as it is change nothing more
pub times_rest : {A : Type 0} {v w : Seen} (f : ℕ → A → Program A) (x y : A) (n m : ℕ) → ((i : ℕ) → f i y ≡ give y) → n ≤ m → Runs (times n f x) v (Ok y) w → Runs (times m f x) v (Ok y) w
unfolding times
times_rest {A} {v} {w} f x y n zero s h k = let p : n ≡ 0 = omega arith in subst (λ i. Runs (times i f x) v (Ok y) w) p k
times_rest {A} {v} {w} f x y n (suc m) s h k = elim (cases_lt n (suc m)) [ inl l ↦ goes_on (f m) (times_rest f x y n m s (omega arith) k) (by_case (λ p. p) (s m) (gives refl)) | inr l ↦ let p : n ≡ suc m = omega arith in subst (λ i. Runs (times i f x) v (Ok y) w) p k ]
