-- What holds of the values that a program may give.
use Rattle.std.proofs.Common.{◌≡◌, ℕ, zero, suc, ◌^◌, ◌<◌, ◌≤◌, Bool, true, false, cond, Ok, sym, refl, subst, inl, inr, mul-le-mul_right, pow-suc, arith}
use Rattle.board.specs.Block.{above}
use Rattle.bus.specs.declared.refusal.Refusal.{Refusal}
use Rattle.bus.specs.Program.{Program, give, refuse, fetch, ask, put, ◌>>=◌, Leads, times, fetch_byte}
use Rattle.bus.specs.Bound.{Gives}
use Rattle.bus.specs.Wide.{fetch_number}

-- a value that code was given is one of them
pub of_leads : {A : Type 0} (P : A → Type 0) (p : Program A) (x : A) → Gives P p → Leads p (Ok x) → P x
unfolding Gives Leads
of_leads P (give y) x h l = let e : x ≡ y = cc in subst P (sym e) h
of_leads P (refuse e) x h l = let z : ◌≡◌ {A = ℕ} 0 1 = cc in absurd (omega arith)
of_leads P (fetch a k) x h l = elim l [ inl m ↦ of_leads P (k m.0) x (h m.0 m.1) m.2 | inr m ↦ let z : ◌≡◌ {A = ℕ} 0 1 = cc in absurd (omega arith) ]
of_leads P (ask a k) x h l = elim l [ inl m ↦ of_leads P k x h m | inr m ↦ let z : ◌≡◌ {A = ℕ} 0 1 = cc in absurd (omega arith) ]
of_leads P (put a b k) x h l = of_leads P k x h l

pub values_bind : {A B : Type 0} (P : A → Type 0) (Q : B → Type 0) (p : Program A) (f : A → Program B) → Gives P p → ((x : A) → P x → Gives Q (f x)) → Gives Q (p >>= f)
unfolding Gives ◌>>=◌
values_bind P Q (give x) f h k = k x h
values_bind P Q (refuse e) f h k = tt
values_bind P Q (fetch a q) f h k = λ b l. values_bind P Q (q b) f (h b l) k
values_bind P Q (ask a q) f h k = values_bind P Q q f h k
values_bind P Q (put a b q) f h k = values_bind P Q q f h k

pub values_weaken : {A : Type 0} (P Q : A → Type 0) (p : Program A) → ((x : A) → P x → Q x) → Gives P p → Gives Q p
unfolding Gives
values_weaken P Q (give x) h k = h x k
values_weaken P Q (refuse e) h k = tt
values_weaken P Q (fetch a q) h k = λ b l. values_weaken P Q (q b) h (k b l)
values_weaken P Q (ask a q) h k = values_weaken P Q q h k
values_weaken P Q (put a b q) h k = values_weaken P Q q h k

pub values_give : {A : Type 0} (P : A → Type 0) (x : A) → P x → Gives P (give x)
unfolding Gives
values_give P x h = h

pub values_refuse : {A : Type 0} (P : A → Type 0) (e : Refusal) → Gives P (refuse e)
unfolding Gives
values_refuse P e = tt

pub values_fetch : (a : ℕ) → Gives (λ b. b < 256) (fetch_byte a)
unfolding Gives
values_fetch a b h = h

pub values_if : {A : Type 0} (P : A → Type 0) (b : Bool) (p q : Program A) → (b ≡ true → Gives P p) → (b ≡ false → Gives P q) → Gives P (cond b p q)
values_if P true p q h k = h refl
values_if P false p q h k = k refl

-- a number of n bytes is below 256^n
pub values_number : (n a : ℕ) → Gives (λ x. x < 256 ^ n) (fetch_number n a)
unfolding fetch_number times
values_number zero a = values_give _ 0 (omega arith)
values_number (suc n) a =
    values_bind (λ x. x < 256 ^ n) (λ x. x < 256 ^ suc n) _ _ (values_number n a)
    (λ x h. values_bind (λ b. b < 256) (λ x. x < 256 ^ suc n) _ _ (values_fetch (above a n))
    (λ b l. values_give _ _ (let m : b ≤ 255 = omega arith in let q = mul-le-mul_right (256 ^ n) m in omega (arith, q, pow-suc 256 n))))
