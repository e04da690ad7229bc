-- The laws of bounds, and that a bounded program has room.
use Rattle.std.proofs.Common.{◌≡◌, ℕ, zero, suc, ◌+◌, ◌-◌, ◌*◌, ◌^◌, ◌<◌, ◌≤◌, Bool, true, false, cond, List, [], ◌∷◌, ◌++◌, length, Some, None, Option, sym, refl, ap, ◌∙◌, subst, arith}
use Rattle.std.proofs.lemmas.List.{length_push}
use Rattle.board.specs.declared.Right.{Right}
use Rattle.board.specs.Meaning.{fetched, writable}
use Rattle.board.specs.Block.{above}
use Rattle.bus.specs.declared.refusal.Refusal.{Refusal}
use Rattle.bus.specs.Sheets.{All}
use Rattle.bus.specs.Buffer.{cells, OneRun}
use Rattle.bus.specs.Program.{Program, give, refuse, fetch, ask, put, ◌>>=◌, runs, World, Trail, Outcome, own_byte, fetching, asking, listed, with_line, with_byte, times, fetch_byte, ask_byte}
use Rattle.bus.specs.Seen.{Roomy}
use Rattle.bus.specs.Bound.{Filled, unfilled, filled, Next, set_at, Within, Reads, Bounded}
use Rattle.bus.proofs.Buffers.{cells_push}
use Rattle.bus.proofs.Trace.{all_push}

-- ==== composition

pub within_bind : {A B : Type 0} (rights : ℕ → Right) (n : ℕ) (s : Filled) (p : Program A) (f : A → Program B) (Q : ℕ → Filled → B → Type 0) → Within rights n s p (λ m u x. Within rights m u (f x) Q) → Within rights n s (p >>= f) Q
unfolding Within ◌>>=◌
within_bind rights n s (give x) f Q h = h
within_bind rights n s (refuse e) f Q h = tt
within_bind rights n s (fetch a k) f Q h = (h.0, λ b. within_bind rights (n - 1) s (k b) f Q (h.1 b))
within_bind rights n s (ask a k) f Q h = λ w. within_bind rights n s k f Q (h w)
within_bind rights n s (put a b k) f Q h = (h.0, h.1, within_bind rights n (set_at s a) k f Q h.2)

pub within_weaken : {A : Type 0} (rights : ℕ → Right) (n : ℕ) (s : Filled) (p : Program A) (P Q : ℕ → Filled → A → Type 0) → ((m : ℕ) (u : Filled) (x : A) → P m u x → Q m u x) → Within rights n s p P → Within rights n s p Q
unfolding Within
within_weaken rights n s (give x) P Q h k = h n s x k
within_weaken rights n s (refuse e) P Q h k = tt
within_weaken rights n s (fetch a m) P Q h k = (k.0, λ b. within_weaken rights (n - 1) s (m b) P Q h (k.1 b))
within_weaken rights n s (ask a m) P Q h k = λ w. within_weaken rights n s m P Q h (k w)
within_weaken rights n s (put a b m) P Q h k = (k.0, k.1, within_weaken rights n (set_at s a) m P Q h k.2)

-- a program with what holds after it, and what comes then
pub within_then : {A B : Type 0} (rights : ℕ → Right) (n : ℕ) (s : Filled) (p : Program A) (f : A → Program B) (P : ℕ → Filled → A → Type 0) (Q : ℕ → Filled → B → Type 0) → Within rights n s p P → ((m : ℕ) (u : Filled) (x : A) → P m u x → Within rights m u (f x) Q) → Within rights n s (p >>= f) Q
within_then rights n s p f P Q h k = within_bind rights n s p f Q (within_weaken rights n s p P (λ m u x. Within rights m u (f x) Q) k h)

-- with the same bytes set
pub within_at : {A : Type 0} (rights : ℕ → Right) (n : ℕ) (s u : Filled) (p : Program A) (Q : ℕ → Filled → A → Type 0) → u ≡ s → Within rights n s p Q → Within rights n u p Q
within_at rights n s u p Q e h = subst (λ z. Within rights n z p Q) (sym e) h

-- a program that only reads, and what comes after it
pub within_after : {A B : Type 0} (rights : ℕ → Right) (j n : ℕ) (s : Filled) (p : Program A) (f : A → Program B) (Q : ℕ → Filled → B → Type 0) → Reads j p → j ≤ n → ((m : ℕ) (x : A) → n ≤ m + j → Within rights m s (f x) Q) → Within rights n s (p >>= f) Q
within_after rights j n s p f Q h l k = within_bind rights n s p f Q (within_weaken rights n s p _ _ (λ m u x q. within_at rights m s u (f x) Q q.1 (k m x q.0)) (h rights n s l))

pub within_give : {A : Type 0} (rights : ℕ → Right) (n : ℕ) (s : Filled) (x : A) (Q : ℕ → Filled → A → Type 0) → Q n s x → Within rights n s (give x) Q
unfolding Within
within_give rights n s x Q h = h

pub within_if : {A : Type 0} (rights : ℕ → Right) (n : ℕ) (s : Filled) (b : Bool) (p q : Program A) (Q : ℕ → Filled → A → Type 0) → (b ≡ true → Within rights n s p Q) → (b ≡ false → Within rights n s q Q) → Within rights n s (cond b p q) Q
within_if rights n s true p q Q h k = h refl
within_if rights n s false p q Q h k = k refl

-- a loop: I i holds before its turn i, and so I n after n of them
pub within_times : {A : Type 0} (rights : ℕ → Right) (I : ℕ → ℕ → Filled → A → Type 0) (m : ℕ) (s : Filled) (n : ℕ) (f : ℕ → A → Program A) (x : A) → I 0 m s x → ((i k : ℕ) (u : Filled) (y : A) → i < n → I i k u y → Within rights k u (f i y) (I (suc i))) → Within rights m s (times n f x) (I n)
unfolding times Within
within_times rights I m s zero f x h k = h
within_times rights I m s (suc n) f x h k = within_then rights m s (times n f x) (f n) (I n) (I (suc n)) (within_times rights I m s n f x h (λ i j u y l q. k i j u y (omega arith) q)) (λ j u y q. k n j u y (omega arith) q)

pub reads_give : {A : Type 0} (k : ℕ) (x : A) → Reads k (give x)
unfolding Within
reads_give k x rights n s l = (omega arith, refl)

pub reads_refuse : (A : Type 0) (k : ℕ) (e : Refusal) → Reads {A = A} k (refuse e)
unfolding Within
reads_refuse A k e rights n s l = tt

pub reads_fetch : (a : ℕ) → Reads 1 (fetch_byte a)
unfolding Within
reads_fetch a rights n s l = (omega arith, λ b. (omega arith, refl))

pub reads_ask : (a : ℕ) → Reads 0 (ask_byte a)
unfolding Within
reads_ask a rights n s l = λ w. (omega arith, refl)

pub reads_more : {A : Type 0} (j k : ℕ) (p : Program A) → j ≤ k → Reads j p → Reads k p
reads_more j k p l h rights n s m = within_weaken rights n s p _ _ (λ m u x q. (omega (arith, q.0), q.1)) (h rights n s (omega arith))

pub reads_bind : {A B : Type 0} (j k : ℕ) (p : Program A) (f : A → Program B) → Reads j p → ((x : A) → Reads k (f x)) → Reads (j + k) (p >>= f)
reads_bind j k p f h m rights n s l = within_after rights j n s p f _ h (omega arith) (λ i x q. within_weaken rights i s (f x) _ _ (λ i u y r. (omega (arith, r.0), r.1)) (m x rights i s (omega arith)))

-- a value made of what was read
pub reads_end : {A B : Type 0} (k : ℕ) (p : Program A) (g : A → B) → Reads k p → Reads k (p >>= λ x. give (g x))
reads_end k p g h = reads_more (k + 0) k _ (omega arith) (reads_bind k 0 p (λ x. give (g x)) h (λ x. reads_give 0 (g x)))

pub reads_if : {A : Type 0} (k : ℕ) (b : Bool) (p q : Program A) → (b ≡ true → Reads k p) → (b ≡ false → Reads k q) → Reads k (cond b p q)
reads_if k true p q h m = h refl
reads_if k false p q h m = m refl

pub reads_times : {A : Type 0} (k n : ℕ) (f : ℕ → A → Program A) (x : A) → ((i : ℕ) (y : A) → Reads k (f i y)) → Reads (n * k) (times n f x)
unfolding times
reads_times k zero f x h = reads_more 0 (0 * k) (give x) (omega arith) (reads_give 0 x)
reads_times k (suc n) f x h = reads_more (n * k + k) (suc n * k) (times n f x >>= f n) (omega arith) (reads_bind (n * k) k (times n f x) (f n) (reads_times k n f x h) (λ y. h n y))

-- ==== a bounded program has room

-- the bytes set, as a list
pub record Holds (rights : ℕ → Right) (own : List (ℕ × ℕ)) : Type 0 where
  pub run : OneRun own
  pub stores : All (λ c. writable (rights c.0) ≡ true) own

abbrev Shows : Filled → List (ℕ × ℕ) → Type 0
Shows unfilled own = own ≡ []
Shows (filled base n) own = (base < 2 ^ 32) × (n ≤ 256) × ((bs : List ℕ) × (length bs ≡ n) × (own ≡ cells base 0 bs))

shows_run : (s : Filled) (own : List (ℕ × ℕ)) → Shows s own → OneRun own
shows_run unfilled own h = record { base = 0; bytes = []; low = omega arith; few = omega arith; is = h }
shows_run (filled base n) own h = record { base = base; bytes = h.2.0; low = h.0; few = omega (arith, h.1, h.2.1); is = h.2.2 }

shows_put : (s : Filled) (own : List (ℕ × ℕ)) (a b : ℕ) → Next s a → Shows s own → Shows (set_at s a) (own ++ ((a, b) ∷ []))
shows_put unfilled own a b h q = let e : a ≡ above a 0 = omega arith in (h, omega arith, (b ∷ [], refl, ap (λ z. z ++ ((a, b) ∷ [])) q ∙ ap (λ x. (x, b) ∷ []) e))
shows_put (filled base n) own a b h q =
    let bs = q.2.0 in
    (q.0, omega (arith, h.1), (bs ++ (b ∷ []), omega (arith, length_push bs b, q.2.1), ap (λ z. z ++ ((a, b) ∷ [])) q.2.2 ∙ (ap (λ z. cells base 0 bs ++ ((z, b) ∷ [])) (h.0 ∙ ap (above base) (omega (arith, q.2.1))) ∙ sym (cells_push base 0 bs b))))

-- what is left after a run, from a trail with n lines to come
pub record Left (rights : ℕ → Right) (n : ℕ) (t u : Trail) : Type 0 where
  pub lines : length u.reads ≤ length t.reads + n
  pub holds : Holds rights u.own

abbrev Sets : (ℕ → Right) → List (ℕ × ℕ) → Type 0
Sets rights own = All (λ c. writable (rights c.0) ≡ true) own

left_now : (rights : ℕ → Right) (n : ℕ) (s : Filled) (t : Trail) → Shows s t.own → Sets rights t.own → Left rights n t t
left_now rights n s t h k = record { lines = omega arith; holds = record { run = shows_run s t.own h; stores = k } }

left_line : (rights : ℕ → Right) (n a b : ℕ) (t u : Trail) → 0 < n → Left rights (n - 1) (with_line a b t) u → Left rights n t u
left_line rights n a b t u l h = record { lines = omega (arith, h.lines, length_push t.reads (record { address = a; byte = b })); holds = h.holds }

left_more : (rights : ℕ → Right) (n : ℕ) (t u : Trail) → Left rights (n - 1) t u → Left rights n t u
left_more rights n t u h = record { lines = omega (arith, h.lines); holds = h.holds }

left_fetch : {A : Type 0} (rights : ℕ → Right) (n a : ℕ) (s : Filled) (k : ℕ → Trail → Outcome A) → ((b : ℕ) (u : Trail) → Shows s u.own → Sets rights u.own → Left rights (n - 1) u (k b u).1) → (t : Trail) → 0 < n → Shows s t.own → Sets rights t.own → (o g : Option ℕ) (l : Bool) → Left rights n t (fetching a k t o g l).1
left_fetch rights n a s k h t m p q (Some b) g l = left_more rights n t _ (h b t p q)
left_fetch rights n a s k h t m p q None None l = left_now rights n s t p q
left_fetch rights n a s k h t m p q None (Some b) true = left_more rights n t _ (h b t p q)
left_fetch rights n a s k h t m p q None (Some b) false = left_line rights n a b t _ m (h b (with_line a b t) p q)

left_ask : {A : Type 0} (rights : ℕ → Right) (n a : ℕ) (s : Filled) (k : Trail → Outcome A) (t : Trail) → Shows s t.own → Sets rights t.own → (r : Bool) → (r ≡ true → Left rights n t (k t).1) → Left rights n t (asking a k t r).1
left_ask rights n a s k t p q true h = h refl
left_ask rights n a s k t p q false h = left_now rights n s t p q

pub left : {A : Type 0} (n : ℕ) (s : Filled) (p : Program A) (Q : ℕ → Filled → A → Type 0) (w : World) (t : Trail) → Within w.rights n s p Q → Shows s t.own → Sets w.rights t.own → Left w.rights n t (runs p w t).1
unfolding runs Within
left n s (give x) Q w t h p q = left_now w.rights n s t p q
left n s (refuse e) Q w t h p q = left_now w.rights n s t p q
left n s (fetch a k) Q w t h p q = left_fetch w.rights n a s (λ b u. runs (k b) w u) (λ b u x y. left (n - 1) s (k b) Q w u (h.1 b) x y) t h.0 p q (own_byte a t) (fetched (w.rights a) (w.bytes a)) (listed a w t)
left n s (ask a k) Q w t h p q = left_ask w.rights n a s (λ u. runs k w u) t p q (writable (w.rights a)) (λ e. left n s k Q w t (h e) p q)
left n s (put a b k) Q w t h p q = let r = left n (set_at s a) k Q w (with_byte a b t) h.2 (shows_put s t.own a b h.1 p) (all_push _ t.own (a, b) q h.0) in record { lines = r.lines; holds = r.holds }

-- a whole step
pub room_for : {A : Type 0} (n limit : ℕ) (p : Program A) (w : World) (t : Trail) → Bounded n p → t.own ≡ [] → length t.reads + n ≤ limit → Roomy limit (runs p w t).1 × Holds w.rights (runs p w t).1.own
room_for n limit p w t h e l =
    let r = left n unfilled p _ w t (h w.rights) e (subst (Sets w.rights) (sym e) tt) in
    (record { lines = omega (arith, r.lines); bytes = r.holds.run }, r.holds)
