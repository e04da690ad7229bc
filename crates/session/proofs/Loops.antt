-- What the code of a run does is what the run should come to.
use Rattle.std.proofs.Common.{◌≡◌, ℕ, zero, suc, ◌+◌, ◌<◌, ◌≤◌, Bool, true, false, length, Some, None, Ok, Err, Result, sym, refl, ap, ◌∙◌, subst, inl, inr, add-one, arith}
use Rattle.std.proofs.lemmas.Bool.{cases_lt}
use Rattle.bus.specs.declared.refusal.Refusal.{Refusal}
use Rattle.bus.specs.declared.refusal.Refusal.TheVariants.{SheetTooShort}
use Rattle.machine.specs.declared.answer.Answer.{Answer}
use Rattle.session.specs.Calls.{State, Moment, state_at, short, attempted, attempted_at, counted, further, tries, unless_short, ran, ran_at, Comes}
use Rattle.session.proofs.Steps.{stays, then_comes}

-- the answer of a run that goes on after i steps
abbrev pub so_far : ℕ → Answer
so_far i = record { completed = i; refusal = None }

-- a try beside the sheets of a moment, on its board, and so many of them from there
abbrev pub try_at : Moment → State → State × Result (Unit {0}) Refusal
try_at t = attempted t.rights (length t.reads) (length t.writes)

abbrev pub tries_at : ℕ → Moment → State × Answer
tries_at k t = tries (try_at t) k (state_at t)

abbrev pub short_at : Moment → Bool
short_at t = short (length t.reads) (length t.writes) t.machine

-- the turns of a run
pub turns_none : (t : Moment) → Comes (tries_at 0 t) (so_far 0) t t
unfolding tries
turns_none t = stays t _ _ refl

module _ (i : ℕ) (t u v : Moment) where
  pub turns_more : (r : Result (Unit {0}) Refusal) → Comes (tries_at i t) (so_far i) t u → Comes (attempted_at u) r u v → Comes (tries_at (i + 1) t) (counted i r) t v
  unfolding tries
  turns_more r h k =
      let L = tries_at i t in
      let e : attempted_at u ≡ try_at t L.0 = λ j. attempted (h.kept j) (h.reads_length j) (h.writes_length j) (h.left j) in
      let q : tries_at (i + 1) t ≡ ((attempted_at u).0, counted i (attempted_at u).1) =
      ap (λ n. tries_at n t) (add-one i)
      ∙ ((λ j. further (try_at t) L.0 (sym h.answer j).completed (sym h.answer j).refusal)
      ∙ ap (λ (o : State × Result (Unit {0}) Refusal). (o.0, counted i o.1)) (sym e)) in
      then_comes (tries_at (i + 1) t) (counted i r) h k (ap (counted i) k.answer ∙ sym (ap (λ o. o.1) q)) (sym (ap (λ o. o.0) q))

  -- a turn after which the run goes on
  pub turn : (r : Result (Unit {0}) Refusal) → Comes (tries_at i t) (so_far i) t u → Comes (attempted_at u) r u v → r ≡ Ok tt → Comes (tries_at (i + 1) t) (so_far (i + 1)) t v
  turn r h k e = turns_more (Ok tt) h (subst (λ z. Comes (attempted_at u) z u v) e k)

-- a refused run ends there
further_ends : (try : State → State × Result (Unit {0}) Refusal) (s : State) (a : Answer) (e : Refusal) → a.refusal ≡ Some e → further try s a.completed a.refusal ≡ (s, a)
further_ends try s a e q = ap (further try s a.completed) q ∙ ap (λ c. (s, record { completed = a.completed; refusal = c })) (sym q)

pub tries_stop : (try : State → State × Result (Unit {0}) Refusal) (j k : ℕ) (s : State) (e : Refusal) → j ≤ k → (tries try j s).1.refusal ≡ Some e → tries try k s ≡ tries try j s
unfolding tries
tries_stop try j zero s e l h = let z : j ≡ 0 = omega arith in ap (λ i. tries try i s) (sym z)
tries_stop try j (suc k) s e l h = elim (cases_lt j (suc k)) [
  | inl m ↦ let q = tries_stop try j k s e (omega arith) h in
      ap (λ (o : State × Answer). further try o.0 o.1.completed o.1.refusal) q ∙ further_ends try (tries try j s).0 (tries try j s).1 e h
  | inr m ↦ let z : j ≡ suc k = omega arith in ap (λ i. tries try i s) (sym z)
]

-- the turn of a refusal
pub turn_out : (i count : ℕ) (t u v : Moment) (r : Result (Unit {0}) Refusal) (e : Refusal) → short_at t ≡ false → i < count → Comes (tries_at i t) (so_far i) t u → Comes (attempted_at u) r u v → r ≡ Err e → Comes (ran_at count t) (record { completed = i; refusal = Some e }) t v
unfolding ran
turn_out i count t u v r e p l h k q =
    let m = turns_more i t u v (Err e) h (subst (λ z. Comes (attempted_at u) z u v) q k) in
    let n : tries_at (i + 1) t ≡ unless_short (short_at t) (state_at t) (tries_at count t) =
    sym (ap (λ b. unless_short b (state_at t) (tries_at count t)) p ∙ tries_stop (try_at t) (i + 1) count (state_at t) e (omega arith) (ap (λ (b : Answer). b.refusal) (sym m.answer))) in
    subst (λ o. Comes o (record { completed = i; refusal = Some e }) t v) n m

-- the run came to its count
pub turned_all : (i count : ℕ) (t u : Moment) → short_at t ≡ false → i ≡ count → Comes (tries_at i t) (so_far i) t u → Comes (ran_at count t) (so_far count) t u
unfolding ran
turned_all i count t u p e h =
    let k = subst (λ j. Comes (tries_at j t) (so_far j) t u) e h in
    subst (λ o. Comes o (so_far count) t u) (sym (ap (λ b. unless_short b (state_at t) (tries_at count t)) p)) k

-- a sheet was too short
pub too_short : (count : ℕ) (t : Moment) → short_at t ≡ true → Comes (ran_at count t) (record { completed = 0; refusal = Some SheetTooShort }) t t
unfolding ran
too_short count t q = stays t _ _ (ap (λ b. unless_short b (state_at t) (tries_at count t)) q)
