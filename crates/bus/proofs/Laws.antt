-- The laws by which code is shown to run a program. Layers above use these and never open `runs` or `◌>>=◌`.
use Rattle.std.proofs.Common.{◌≡◌, ℕ, zero, suc, ◌+◌, ◌≤◌, Bool, true, false, cond, List, length, IsErrAnd, Some, None, Ok, Err, Option, Result, sym, refl, ap, ◌∙◌, subst, inl, inr, le_refl, add-one, arith, length-append}
use Rattle.std.proofs.lemmas.Bool.{cases_lt}
use Rattle.std.proofs.lemmas.Result.{err_from_is_err_and}
use Rattle.board.specs.Meaning.{fetched, writable}
use Rattle.bus.specs.declared.line.ReadLine.{ReadLine}
use Rattle.bus.specs.declared.refusal.Refusal.{Refusal}
use Rattle.bus.specs.Buffer.{OneRun}
use Rattle.bus.specs.Program.{Program, give, refuse, fetch, ask, put, ◌>>=◌, runs, World, Trail, Outcome, own_byte, fetching, asking, listed, with_line, with_byte, times, Leads, answer}
use Rattle.bus.specs.Seen.{Extends, Grown, Roomy, Seen, Later, Runs}
use Rattle.bus.proofs.Lines.{drop_more_same}
use Rattle.bus.proofs.Buffers.{cells_front}
use Rattle.bus.proofs.Trace.{grown_none, grown_trans, grows}

-- ==== one program after another

-- what follows an outcome
abbrev then : {A B : Type 0} → (A → Program B) → World → Outcome A → Outcome B
then f w o = elim o.0 [ Ok x ↦ runs (f x) w o.1 | Err e ↦ (Err e, o.1) ]

module _ {A B : Type 0} (f : A → Program B) (w : World) where
  bind_fetch : (a : ℕ) (k : ℕ → Trail → Outcome A) (m : ℕ → Trail → Outcome B) → ((b : ℕ) (u : Trail) → m b u ≡ then f w (k b u)) → (t : Trail) (s g : Option ℕ) (l : Bool) → fetching a m t s g l ≡ then f w (fetching a k t s g l)
  bind_fetch a k m h t (Some b) g l = h b t
  bind_fetch a k m h t None None l = refl
  bind_fetch a k m h t None (Some b) true = h b t
  bind_fetch a k m h t None (Some b) false = h b (with_line a b t)

  bind_ask : (a : ℕ) (k : Trail → Outcome A) (m : Trail → Outcome B) → ((u : Trail) → m u ≡ then f w (k u)) → (t : Trail) (r : Bool) → asking a m t r ≡ then f w (asking a k t r)
  bind_ask a k m h t true = h t
  bind_ask a k m h t false = refl

  pub runs_bind : (p : Program A) (t : Trail) → runs (p >>= f) w t ≡ then f w (runs p w t)
  unfolding runs ◌>>=◌
  runs_bind (give x) t = refl
  runs_bind (refuse e) t = refl
  runs_bind (fetch a k) t = bind_fetch a (λ b u. runs (k b) w u) (λ b u. runs (k b >>= f) w u) (λ b u. runs_bind (k b) u) t (own_byte a t) (fetched (w.rights a) (w.bytes a)) (listed a w t)
  runs_bind (ask a k) t = bind_ask a (λ u. runs k w u) (λ u. runs (k >>= f) w u) (λ u. runs_bind k u) t (writable (w.rights a))
  runs_bind (put a b k) t = runs_bind k (with_byte a b t)

  then_grows : (o : Outcome A) → Grown o.1 (then f w o).1
  then_grows (Ok x, t) = grows (f x) w t
  then_grows (Err e, t) = grown_none t

  bind_grows : (p : Program A) (t : Trail) → Grown (runs p w t).1 (runs (p >>= f) w t).1
  bind_grows p t = subst (λ o. Grown (runs p w t).1 o.1) (sym (runs_bind p t)) (then_grows (runs p w t))

-- ==== answers that a program may come to

pub leads_ok : {A B : Type 0} (p : Program A) (f : A → Program B) (x : A) (r : Result B Refusal) → Leads p (Ok x) → Leads (f x) r → Leads (p >>= f) r
unfolding Leads ◌>>=◌
leads_ok (give y) f x r h k = let e : x ≡ y = cc in subst (λ z. Leads (f z) r) e k
leads_ok (refuse e) f x r h k = let z : ◌≡◌ {A = ℕ} 0 1 = cc in absurd (omega arith)
leads_ok (fetch a q) f x r h k = elim h [ inl m ↦ inl (m.0, m.1, leads_ok (q m.0) f x r m.2 k) | inr m ↦ let z : ◌≡◌ {A = ℕ} 0 1 = cc in absurd (omega arith) ]
leads_ok (ask a q) f x r h k = elim h [ inl m ↦ inl (leads_ok q f x r m k) | inr m ↦ let z : ◌≡◌ {A = ℕ} 0 1 = cc in absurd (omega arith) ]
leads_ok (put a b q) f x r h k = leads_ok q f x r h k

pub leads_err : {A B : Type 0} (p : Program A) (f : A → Program B) (e : Refusal) → Leads p (Err e) → Leads (p >>= f) (Err e)
unfolding Leads ◌>>=◌
leads_err (give y) f e h = let z : ◌≡◌ {A = ℕ} 0 1 = cc in absurd (omega arith)
leads_err (refuse d) f e h = cc
leads_err (fetch a q) f e h = elim h [ inl m ↦ inl (m.0, m.1, leads_err (q m.0) f e m.2) | inr m ↦ inr (cc) ]
leads_err (ask a q) f e h = elim h [ inl m ↦ inl (leads_err q f e m) | inr m ↦ inr (cc) ]
leads_err (put a b q) f e h = leads_err q f e h

-- ==== room

one_run_before : (xs ys : List (ℕ × ℕ)) → Extends xs ys → OneRun ys → OneRun xs
one_run_before xs ys g h =
    let f = cells_front h.base 0 xs g.0 h.bytes (sym g.1 ∙ h.is) in
    record { base = h.base; bytes = f.0; low = h.low; few = omega (arith, f.1, h.few); is = f.2 }

pub roomy_before : {n : ℕ} {t u : Trail} → Grown t u → Roomy n u → Roomy n t
roomy_before {n} {t} {u} g h = record { lines = omega (arith, h.lines, ap length g.reads.1, length-append t.reads g.reads.0); bytes = one_run_before t.own u.own g.own h.bytes }

-- ==== the reads sheet from one moment to a later one

pub now_on : {n : ℕ} {xs : List ReadLine} → Later n xs n xs
now_on {n} = record { more = le_refl n; within = λ h. h; long = refl; past = refl }

pub later_on : {l m n : ℕ} {xs ys zs : List ReadLine} → Later l xs m ys → Later m ys n zs → Later l xs n zs
later_on {m = m} {n = n} {xs = xs} {ys = ys} h k = record {
  more = omega arith;
  within = λ p. k.within (h.within p);
  long = k.long ∙ h.long;
  past = k.past ∙ drop_more_same m n ys xs k.more h.past;
}

-- ==== walking along code

-- the first part was answered, and the rest runs on
pub goes_on : {A B : Type 0} {p : Program A} {v w u : Seen} {x : A} {r : Result B Refusal} (f : A → Program B) → Runs p v (Ok x) w → Runs (f x) w r u → Runs (p >>= f) v r u
goes_on {A} {B} {p} {v} {w} {u} {x} {r} f h k = record {
  leads = leads_ok p f x r h.leads k.leads;
  comes = λ room.
      let first = h.comes (roomy_before (bind_grows f v.world p v.trail) room) in
      let whole : runs (p >>= f) v.world v.trail ≡ runs (f x) w.world w.trail = runs_bind f v.world p v.trail ∙ (ap (then f v.world) first ∙ ap (λ z. runs (f x) z w.trail) (sym h.world)) in
      whole ∙ k.comes (subst (λ n. Roomy n (runs (f x) w.world w.trail).1) (sym h.later.long) (subst (λ o. Roomy (length v.sheet) o.1) whole room));
  grown = grown_trans v.trail w.trail u.trail h.grown k.grown;
  world = k.world ∙ h.world;
  loan = k.loan ∙ h.loan;
  later = later_on h.later k.later;
}

-- the first part was refused, and so is the whole
pub ends_at : {A B : Type 0} {p : Program A} {v w : Seen} {e : Refusal} (f : A → Program B) → Runs p v (Err e) w → Runs (p >>= f) v (Err e) w
ends_at {A} {B} {p} {v} {w} {e} f h = record {
  leads = leads_err p f e h.leads;
  comes = λ room. runs_bind f v.world p v.trail ∙ ap (then f v.world) (h.comes (roomy_before (bind_grows f v.world p v.trail) room));
  grown = h.grown;
  world = h.world;
  loan = h.loan;
  later = h.later;
}

pub gives : {A : Type 0} {x y : A} {v : Seen} → x ≡ y → Runs (give x) v (Ok y) v
unfolding runs Leads
gives {v = v} e = record { leads = ap Ok (sym e); comes = λ _. ap (λ z. (Ok z, v.trail)) e; grown = grown_none v.trail; world = refl; loan = refl; later = now_on }

pub refuses : {A : Type 0} {d e : Refusal} {v : Seen} → d ≡ e → Runs {A = A} (refuse d) v (Err e) v
unfolding runs Leads
refuses {v = v} q = record { leads = ap Err (sym q); comes = λ _. ap (λ z. (Err z, v.trail)) q; grown = grown_none v.trail; world = refl; loan = refl; later = now_on }

-- code that only answers
pub answers : {A : Type 0} {v : Seen} (q r : Result A Refusal) → r ≡ q → Runs (answer q) v r v
answers (Ok x) r e = rw e (gives refl)
answers (Err d) r e = rw e (refuses refl)

-- what a `?` hands on
pub hands_on : {A : Type 0} {p : Program A} {v w : Seen} {e : Refusal} {r : Result A Refusal} → IsErrAnd r (λ y. y ≡ e) → Runs p v (Err e) w → Runs p v r w
hands_on {r = r} h k = let q = err_from_is_err_and r h in rw (q.1, q.2) k

-- one of several cases
pub by_case : {A X : Type 0} {x y : X} {v w : Seen} {r : Result A Refusal} (f : X → Program A) → x ≡ y → Runs (f y) v r w → Runs (f x) v r w
by_case {v = v} {w = w} {r = r} f e h = subst (λ z. Runs (f z) v r w) (sym e) h

-- a branch
pub if_so : {A : Type 0} {b : Bool} {p : Program A} {v w : Seen} {r : Result A Refusal} (q : Program A) → b ≡ true → Runs p v r w → Runs (cond b p q) v r w
if_so q e h = rw e h

pub if_not : {A : Type 0} {b : Bool} {q : Program A} {v w : Seen} {r : Result A Refusal} (p : Program A) → b ≡ false → Runs q v r w → Runs (cond b p q) v r w
if_not p e h = rw e h

-- the turns of a loop
pub times_none : {A : Type 0} {v : Seen} (f : ℕ → A → Program A) (x : A) → Runs (times 0 f x) v (Ok x) v
unfolding times
times_none f x = gives refl

pub times_more : {A : Type 0} {y : A} {v w u : Seen} {r : Result A Refusal} (f : ℕ → A → Program A) (x : A) (n : ℕ) → Runs (times n f x) v (Ok y) w → Runs (f n y) w r u → Runs (times (n + 1) f x) v r u
unfolding times
times_more f x n h k = rw (add-one n) (goes_on (f n) h k)

pub times_ends : {A : Type 0} {v w : Seen} {e : Refusal} (f : ℕ → A → Program A) (x : A) (n m : ℕ) → n ≤ m → Runs (times n f x) v (Err e) w → Runs (times m f x) v (Err e) w
unfolding times
times_ends {A} {v} {w} {e} f x n zero h k = let p : n ≡ 0 = omega arith in subst (λ i. Runs (times i f x) v (Err e) w) p k
times_ends {A} {v} {w} {e} f x n (suc m) h k = elim (cases_lt n (suc m)) [ inl l ↦ ends_at (f m) (times_ends f x n m (omega arith) k) | inr l ↦ let p : n ≡ suc m = omega arith in subst (λ i. Runs (times i f x) v (Err e) w) p k ]
