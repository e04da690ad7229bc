-- What holds of each value that a program may give, whatever numbers it is answered, bytes or not: bounds hold of all of them too.
use Rattle.std.proofs.Common.{◌≡◌, ℕ, ◌-◌, Bool, true, false, cond, refl}
use Rattle.board.specs.declared.Right.{Right}
use Rattle.bus.specs.declared.refusal.Refusal.{Refusal}
use Rattle.bus.specs.Program.{Program, give, refuse, fetch, ask, put, ◌>>=◌}
use Rattle.bus.specs.Bound.{Filled, set_at, Within}

unfoldable pub Always : {A : Type 0} → (A → Type 0) → Program A → Type 0
Always P (give x) = P x
Always P (refuse e) = Unit {0}
Always P (fetch a k) = (b : ℕ) → Always P (k b)
Always P (ask a k) = Always P k
Always P (put a b k) = Always P k

pub always_give : {A : Type 0} (P : A → Type 0) (x : A) → P x → Always P (give x)
unfolding Always
always_give P x h = h

pub always_refuse : {A : Type 0} (P : A → Type 0) (e : Refusal) → Always P (refuse e)
unfolding Always
always_refuse P e = tt

pub always_if : {A : Type 0} (P : A → Type 0) (b : Bool) (p q : Program A) → (b ≡ true → Always P p) → (b ≡ false → Always P q) → Always P (cond b p q)
always_if P true p q h k = h refl
always_if P false p q h k = k refl

-- the last part decides, whatever the first gives it
pub always_last : {A B : Type 0} (P : B → Type 0) (p : Program A) (f : A → Program B) → ((x : A) → Always P (f x)) → Always P (p >>= f)
unfolding Always ◌>>=◌
always_last P (give x) f h = h x
always_last P (refuse e) f h = tt
always_last P (fetch a k) f h = λ b. always_last P (k b) f h
always_last P (ask a k) f h = always_last P k f h
always_last P (put a b k) f h = always_last P k f h

pub within_always : {A : Type 0} (P : A → Type 0) (rights : ℕ → Right) (n : ℕ) (s : Filled) (p : Program A) (Q : ℕ → Filled → A → Type 0) → Always P p → Within rights n s p Q → Within rights n s p (λ m u x. Q m u x × P x)
unfolding Always Within
within_always P rights n s (give x) Q h k = (k, h)
within_always P rights n s (refuse e) Q h k = tt
within_always P rights n s (fetch a m) Q h k = (k.0, λ b. within_always P rights (n - 1) s (m b) Q (h b) (k.1 b))
within_always P rights n s (ask a m) Q h k = λ w. within_always P rights n s m Q h (k w)
within_always P rights n s (put a b m) Q h k = (k.0, k.1, within_always P rights n (set_at s a) m Q h k.2)
