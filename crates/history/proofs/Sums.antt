-- Runs of equal sums come to one state, since a refused step, tried again, changes nothing.
use Rattle.std.proofs.Common.{◌≡◌, ℕ, zero, suc, ◌+◌, Bool, true, false, List, [], ◌∷◌, Some, None, Ok, Err, Option, Result, sym, refl, ap, ◌∙◌, subst, add-zero, add-suc, arith}
use Rattle.board.specs.declared.Right.{Right}
use Rattle.bus.specs.declared.refusal.Refusal.{Refusal}
use Rattle.bus.specs.Program.{Trail, runs}
use Rattle.bus.proofs.Trace.{again, with_reads}
use Rattle.processor.specs.declared.cpu.Cpu.{Cpu}
use Rattle.execute.specs.Step.{one_step}
use Rattle.machine.specs.declared.answer.Answer.{Answer}
use Rattle.history.specs.declared.call.Lines.{Lines}
use Rattle.history.specs.declared.call.Call.TheVariants.{Run}
use Rattle.session.specs.Calls.{State, short, step_admitted, world, trail, concluded, stepped, attempted, counted, further, tries, unless_short, ran}
use Rattle.history.specs.History.{Phase, setting_up, running, closed, Point, at, did, after, runs_of, sum}

-- a try that was refused, tried once more, changes nothing
abbrev Still : (State → State × Result (Unit {0}) Refusal) → State × Result (Unit {0}) Refusal → Type 0
Still try o = (e : Refusal) → o.1 ≡ Err e → (try o.0).0 ≡ o.0

module _ (rights : ℕ → Right) (m n : ℕ) where
  -- after a refused step, a further try changes nothing, whatever stands against it
  concluded_still : (s : State) (r : Result Cpu Refusal) (t : Trail) → runs (one_step s.machine.cpu) (world rights s) (trail s) ≡ (r, t) → (e : Refusal) → (concluded rights s r t).1 ≡ Err e → (c : Result (Unit {0}) Refusal) → (stepped rights (concluded rights s r t).0 c).0 ≡ (concluded rights s r t).0
  concluded_still s (Ok x) t h e q c = let z : ◌≡◌ {A = ℕ} 0 1 = cc in absurd (omega arith)
  concluded_still s (Err x) t h e q (Err d) = refl
  concluded_still s (Err x) t h e q (Ok y) =
      let p = again (one_step s.machine.cpu) (world rights s) (trail s) in
      let k : runs (one_step s.machine.cpu) (world rights s) (with_reads t.reads (trail s)) ≡ (Err x, t) = subst (λ o. runs (one_step s.machine.cpu) (world rights s) (with_reads o.1.reads (trail s)) ≡ o) h p in
      ap (λ o. (concluded rights (concluded rights s (Err x) t).0 o.0 o.1).0) k

  stepped_still : (s : State) (c : Result (Unit {0}) Refusal) → step_admitted m n s.machine ≡ c → Still (attempted rights m n) (stepped rights s c)
  unfolding attempted
  stepped_still s (Err d) k e q = ap (λ c. (stepped rights s c).0) k
  stepped_still s (Ok y) k e q =
      let o = runs (one_step s.machine.cpu) (world rights s) (trail s) in
      concluded_still s o.0 o.1 refl e q (step_admitted m n (concluded rights s o.0 o.1).0.machine)

  still : (s : State) → Still (attempted rights m n) (attempted rights m n s)
  unfolding attempted
  still s = stepped_still s (step_admitted m n s.machine) refl

-- so many tries, refused or not
abbrev trying : (State → State × Result (Unit {0}) Refusal) → ℕ → State → State
trying try zero s = s
trying try (suc k) s = (try (trying try k s)).0

module _ (try : State → State × Result (Unit {0}) Refusal) (h : (s : State) → Still try (try s)) where
  -- where a run of tries was refused, one more changes nothing
  abbrev Stuck : State × Answer → Type 0
  Stuck o = (e : Refusal) → o.1.refusal ≡ Some e → (try o.0).0 ≡ o.0

  counted_stuck : (s : State) (k : ℕ) (o : Result (Unit {0}) Refusal) → ((e : Refusal) → o ≡ Err e → (try s).0 ≡ s) → (e : Refusal) → (counted k o).refusal ≡ Some e → (try s).0 ≡ s
  counted_stuck s k (Ok x) g e q = let z : ◌≡◌ {A = ℕ} 0 1 = cc in absurd (omega arith)
  counted_stuck s k (Err d) g e q = g d refl

  further_stuck : (s : State) (k : ℕ) (c : Option Refusal) → ((e : Refusal) → c ≡ Some e → (try s).0 ≡ s) → Stuck (further try s k c)
  further_stuck s k None g e q = counted_stuck (try s).0 k (try s).1 (h s) e q
  further_stuck s k (Some d) g e q = g d refl

  tries_stuck : (k : ℕ) (s : State) → Stuck (tries try k s)
  unfolding tries
  tries_stuck zero s e q = let z : ◌≡◌ {A = ℕ} 0 1 = cc in absurd (omega arith)
  tries_stuck (suc k) s e q = further_stuck (tries try k s).0 (tries try k s).1.completed (tries try k s).1.refusal (tries_stuck k s) e q

  further_trying : (s : State) (k : ℕ) (c : Option Refusal) → ((e : Refusal) → c ≡ Some e → (try s).0 ≡ s) → (further try s k c).0 ≡ (try s).0
  further_trying s k None g = refl
  further_trying s k (Some d) g = sym (g d refl)

  tries_trying : (k : ℕ) (s : State) → (tries try k s).0 ≡ trying try k s
  unfolding tries
  tries_trying zero s = refl
  tries_trying (suc k) s = further_trying (tries try k s).0 (tries try k s).1.completed (tries try k s).1.refusal (tries_stuck k s) ∙ ap (λ t. (try t).0) (tries_trying k s)

trying_add : (try : State → State × Result (Unit {0}) Refusal) (j k : ℕ) (s : State) → trying try (j + k) s ≡ trying try k (trying try j s)
trying_add try j zero s = ap (λ i. trying try i s) (add-zero j)
trying_add try j (suc k) s = ap (λ i. trying try i s) (add-suc j k) ∙ ap (λ t. (try t).0) (trying_add try j k s)

trying_same : (try : State → State × Result (Unit {0}) Refusal) (k : ℕ) (s : State) → (try s).0 ≡ s → trying try k s ≡ s
trying_same try zero s e = refl
trying_same try (suc k) s e = ap (λ t. (try t).0) (trying_same try k s e) ∙ e

module _ (rights : ℕ → Right) (l : Lines) where
  abbrev T : State → State × Result (Unit {0}) Refusal
  T = attempted rights l.reads l.writes

  short_try : (s : State) → short l.reads l.writes s.machine ≡ true → (attempted rights l.reads l.writes s).0 ≡ s
  unfolding attempted
  short_try s e = rw e

  ran_by : (k : ℕ) (s : State) (b : Bool) → short l.reads l.writes s.machine ≡ b → (unless_short b s (tries T k s)).0 ≡ trying T k s
  ran_by k s true e = sym (trying_same T k s (short_try s e))
  ran_by k s false e = tries_trying T (still rights l.reads l.writes) k s

  ran_trying : (k : ℕ) (s : State) → (ran rights l.reads l.writes k s).0 ≡ trying T k s
  unfolding ran
  ran_trying k s = ran_by k s (short l.reads l.writes s.machine) refl

  runs_trying : (ks : List ℕ) (s : State) → (after rights (runs_of l ks) (at running s)).0 ≡ at running (trying T (sum ks) s)
  unfolding after
  runs_trying [] s = refl
  runs_trying (k ∷ ks) s =
      runs_trying ks (ran rights l.reads l.writes k s).0
      ∙ (ap (λ t. at running (trying T (sum ks) t)) (ran_trying k s)
      ∙ ap (at running) (sym (trying_add T k (sum ks) s)))

  -- before the start and after the close, runs do nothing
  runs_idle : (p : Phase) (s : State) → ((k : ℕ) → (did rights (Run k l) p s).0 ≡ at p s) → (ks : List ℕ) → (after rights (runs_of l ks) (at p s)).0 ≡ at p s
  unfolding after
  runs_idle p s h [] = refl
  runs_idle p s h (k ∷ ks) = ap (λ q. (after rights (runs_of l ks) q).0) (h k) ∙ runs_idle p s h ks

  equal_at : (p : Phase) (s : State) (js ks : List ℕ) → sum js ≡ sum ks → (after rights (runs_of l js) (at p s)).0 ≡ (after rights (runs_of l ks) (at p s)).0
  equal_at setting_up s js ks e = runs_idle setting_up s (λ k. refl) js ∙ sym (runs_idle setting_up s (λ k. refl) ks)
  equal_at running s js ks e = runs_trying js s ∙ (ap (λ i. at running (trying T i s)) e ∙ sym (runs_trying ks s))
  equal_at closed s js ks e = runs_idle closed s (λ k. refl) js ∙ sym (runs_idle closed s (λ k. refl) ks)

  pub equal_sums : (p : Point) (js ks : List ℕ) → sum js ≡ sum ks → (after rights (runs_of l js) p).0 ≡ (after rights (runs_of l ks) p).0
  equal_sums p js ks e = equal_at p.phase p.state js ks e
