-- How many fetches are enough for a program that may set bytes, if nothing is set before it. Bounds of whole steps are put together of these.
use Rattle.std.proofs.Common.{◌≡◌, ℕ, ◌+◌, ◌≤◌, refl, arith}
use Rattle.board.specs.declared.Right.{Right}
use Rattle.bus.specs.Program.{Program, give, ◌>>=◌}
use Rattle.bus.specs.Bound.{unfilled, Within, Reads, Bounded}
use Rattle.bus.specs.Wide.{ask_bytes, put_number}
use Rattle.bus.proofs.Room.{within_weaken, within_then, within_at, within_after, within_give}
use Rattle.bus.proofs.WideRoom.{within_asked, puts, filling, Put}
use Rattle.bus.proofs.Always.{Always, within_always}

abbrev pub Enough : {A : Type 0} → ℕ → Program A → Type 0
Enough k p = (rights : ℕ → Right) (n : ℕ) → k ≤ n → Within rights n unfilled p (λ _ _ _. Unit {0})

pub enough_bounded : {A : Type 0} (k n : ℕ) (p : Program A) → k ≤ n → Enough k p → Bounded n p
enough_bounded k n p l h rights = h rights n l

pub enough_more : {A : Type 0} (j k : ℕ) (p : Program A) → j ≤ k → Enough j p → Enough k p
enough_more j k p l h rights n m = h rights n (omega arith)

pub enough_reads : {A : Type 0} (k : ℕ) (p : Program A) → Reads k p → Enough k p
enough_reads k p h rights n l = within_weaken rights n unfilled p _ _ (λ _ _ _ _. tt) (h rights n unfilled l)

-- a program that only reads, and what comes after it
pub enough_after : {A B : Type 0} (j k n : ℕ) (p : Program A) (f : A → Program B) → j + k ≤ n → Reads j p → ((x : A) → Enough k (f x)) → Enough n (p >>= f)
enough_after j k n p f l h g rights i m = within_after rights j i unfilled p f _ h (omega arith) (λ r x q. g x rights r (omega arith))

-- the same where something is known of what it gives
pub enough_known : {A B : Type 0} (j k n : ℕ) (P : A → Type 0) (p : Program A) (f : A → Program B) → j + k ≤ n → Reads j p → Always P p → ((x : A) → P x → Enough k (f x)) → Enough n (p >>= f)
enough_known j k n P p f l h a g rights i m =
    within_then rights i unfilled p f (λ r u x. ((i ≤ r + j) × (u ≡ unfilled)) × P x) _ (within_always P rights i unfilled p _ a (h rights i unfilled (omega arith)))
    (λ r u x q. within_at rights r unfilled u (f x) _ q.0.1 (g x q.1 rights r (omega (arith, q.0.0))))

-- a value made of what was given
pub enough_end : {A B : Type 0} (k : ℕ) (p : Program A) (g : A → B) → Enough k p → Enough k (p >>= λ x. give (g x))
enough_end k p g h rights n l = within_then rights n unfilled p (λ x. give (g x)) _ _ (h rights n l) (λ r u x _. within_give rights r u (g x) _ tt)

-- a number stored: the rights first, then its bytes
pub enough_stored : {A : Type 0} (n a v : ℕ) (x : A) → n ≤ 256 → Enough 0 (ask_bytes n a >>= λ _. put_number n a v >>= λ _. give x)
enough_stored n a v x h rights m l =
    within_asked rights m unfilled n a (λ _. put_number n a v >>= λ _. give x) _
    (λ w. within_then rights m unfilled (put_number n a v) (λ _. give x) (Put m (filling a (0 + n))) _ (puts rights m a 0 n a v refl (omega arith) w) (λ r u y _. within_give rights r u x _ tt))
