-- What one access comes to, by cases.
use Rattle.std.proofs.Common.{◌≡◌, ℕ, ◌+◌, ◌<◌, ◌≤◌, Bool, true, false, cond, List, [], ◌∷◌, ◌++◌, length, Some, None, Ok, Err, Option, sym, refl, ap, ◌∙◌, subst, inl, inr, arith}
use Rattle.std.proofs.lemmas.List.{length_push}
use Rattle.board.specs.Meaning.{fetched, writable}
use Rattle.bus.specs.declared.line.ReadLine.{ReadLine}
use Rattle.bus.specs.declared.refusal.Refusal.TheVariants.{NoRight}
use Rattle.bus.specs.Buffer.{OneRun}
use Rattle.bus.specs.Program.{runs, Trail, own_byte, fetching, asking, listed, with_line, fetch_byte, ask_byte, put_byte, Leads}
use Rattle.bus.specs.Seen.{Extends, Grown, Seen, Later, Runs}
use Rattle.bus.proofs.Laws.{now_on}
use Rattle.bus.proofs.Trace.{grown_none, extends_none}

pub same_trail : {t u : Trail} → t.reads ≡ u.reads → t.own ≡ u.own → t ≡ u
same_trail p q = λ i. record { reads = p i; own = q i }

-- one line more, or the same lines
pub one_line : (t : Trail) (x : ReadLine) (u : Trail) → u.reads ≡ t.reads ++ (x ∷ []) → u.own ≡ t.own → Grown t u
one_line t x u e q = record { reads = (x ∷ [], e); own = subst (Extends t.own) (sym q) (extends_none t.own) }

pushed : {X : Type 0} (j : Bool) (xs : List X) (x : X) → Extends xs (cond j (xs ++ (x ∷ [])) xs)
pushed true xs x = (x ∷ [], refl)
pushed false xs x = extends_none xs

module _ (s : Seen) (a : ℕ) where
  at_fetch : {o g : Option ℕ} {l : Bool} → o ≡ own_byte a s.trail → g ≡ fetched (s.world.rights a) (s.world.bytes a) → l ≡ listed a s.world s.trail → runs (fetch_byte a) s.world s.trail ≡ fetching a (λ b u. (Ok b, u)) s.trail o g l
  unfolding runs
  at_fetch p q r = λ i. fetching a (λ b u. (Ok b, u)) s.trail (sym p i) (sym q i) (sym r i)

  -- a byte that the step itself has set
  pub fetch_own : {b : ℕ} → b < 256 → Some b ≡ own_byte a s.trail → Runs (fetch_byte a) s (Ok b) s
  unfolding Leads
  fetch_own {b} l p = record { leads = inl (b, l, refl); comes = λ _. at_fetch p refl refl; grown = grown_none s.trail; world = refl; loan = refl; later = now_on }

  -- no right
  pub fetch_denied : None ≡ own_byte a s.trail → None ≡ fetched (s.world.rights a) (s.world.bytes a) → Runs (fetch_byte a) s (Err (NoRight a)) s
  unfolding Leads
  fetch_denied p q = record { leads = inr refl; comes = λ _. at_fetch p q refl; grown = grown_none s.trail; world = refl; loan = refl; later = now_on }

  -- an address that a used line names
  pub fetch_listed : {b : ℕ} → b < 256 → None ≡ own_byte a s.trail → Some b ≡ fetched (s.world.rights a) (s.world.bytes a) → true ≡ listed a s.world s.trail → Runs (fetch_byte a) s (Ok b) s
  unfolding Leads
  fetch_listed {b} l p q r = record { leads = inl (b, l, refl); comes = λ _. at_fetch p q r; grown = grown_none s.trail; world = refl; loan = refl; later = now_on }

  -- any other address: one line more, where there is room
  pub fetch_fresh : {b : ℕ} {s' : Seen} → b < 256 → None ≡ own_byte a s.trail → Some b ≡ fetched (s.world.rights a) (s.world.bytes a) → false ≡ listed a s.world s.trail → (length s.trail.reads + 1 ≤ length s.sheet → s'.trail ≡ with_line a b s.trail) → Grown s.trail s'.trail → s'.world ≡ s.world → s'.loan ≡ s.loan → Later s.used s.sheet s'.used s'.sheet → Runs (fetch_byte a) s (Ok b) s'
  unfolding Leads
  fetch_fresh {b} small p q r t m w l h = record {
    leads = inl (b, small, refl);
    comes = λ room.
        let e = at_fetch p q r in
        let n = ap (λ o. length o.1.reads) e in
        e ∙ ap (λ u. (Ok b, u)) (sym (t (omega (arith, room.lines, length_push s.trail.reads (record { address = a; byte = b })))));
    grown = m;
    world = w;
    loan = l;
    later = h;
  }

  at_ask : {r : Bool} → writable (s.world.rights a) ≡ r → runs (ask_byte a) s.world s.trail ≡ asking a (λ u. (Ok tt, u)) s.trail r
  unfolding runs
  at_ask p = ap (asking a (λ u. (Ok tt, u)) s.trail) p

  pub ask_granted : writable (s.world.rights a) ≡ true → Runs (ask_byte a) s (Ok tt) s
  unfolding Leads
  ask_granted p = record { leads = inl refl; comes = λ _. at_ask p; grown = grown_none s.trail; world = refl; loan = refl; later = now_on }

  pub ask_denied : writable (s.world.rights a) ≡ false → Runs (ask_byte a) s (Err (NoRight a)) s
  unfolding Leads
  ask_denied p = record { leads = inr refl; comes = λ _. at_ask p; grown = grown_none s.trail; world = refl; loan = refl; later = now_on }

  -- a byte set: it joins the bytes before it wherever they stay one run
  pub put_joined : {b : ℕ} {s' : Seen} (j : Bool) → (OneRun (s.trail.own ++ ((a, b) ∷ [])) → j ≡ true) → s'.trail.own ≡ cond j (s.trail.own ++ ((a, b) ∷ [])) s.trail.own → s'.trail.reads ≡ s.trail.reads → s'.world ≡ s.world → s'.loan ≡ s.loan → Later s.used s.sheet s'.used s'.sheet → Runs (put_byte a b) s (Ok tt) s'
  unfolding runs Leads
  put_joined {b} j o q r w l h = record {
    leads = refl;
    comes = λ room. ap (λ u. (Ok tt, u)) (sym (same_trail r (q ∙ ap (λ x. cond x (s.trail.own ++ ((a, b) ∷ [])) s.trail.own) (o room.bytes))));
    grown = record { reads = subst (Extends s.trail.reads) (sym r) (extends_none s.trail.reads); own = subst (Extends s.trail.own) (sym q) (pushed j s.trail.own (a, b)) };
    world = w;
    loan = l;
    later = h;
  }
