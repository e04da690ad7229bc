-- Sessions with the same calls on two boards.
use Rattle.std.proofs.Common.{◌≡◌, ℕ, zero, suc, Bool, true, false, ◌||◌, eqb, List, [], ◌∷◌, ◌++◌, Some, None, Ok, Err, Option, Result, sym, refl, ap, ◌∙◌, subst, arith}
use Rattle.std.proofs.lemmas.Bool.Decides.{nat_tests}
use Rattle.board.specs.declared.Right.{Right}
use Rattle.bus.specs.declared.refusal.Refusal.{Refusal}
use Rattle.bus.specs.declared.line.ReadLine.{ReadLine}
use Rattle.bus.specs.Sheets.{names, All}
use Rattle.bus.specs.Seen.{Extends}
use Rattle.bus.specs.Program.{Trail, runs}
use Rattle.bus.specs.Commit.{stores}
use Rattle.bus.proofs.Trace.{grows, extends_none, extends_trans, replays, Agrees, of_line}
use Rattle.processor.specs.declared.cpu.Cpu.{Cpu}
use Rattle.execute.specs.Step.{one_step}
use Rattle.machine.specs.declared.held.Machine.{Machine}
use Rattle.machine.specs.declared.answer.Answer.{Answer}
use Rattle.history.specs.declared.call.Call.{Call}
use Rattle.history.specs.declared.call.Call.TheVariants.{Preset, Start, Step, Run, Close}
use Rattle.history.specs.declared.call.Reply.{Reply}
use Rattle.history.specs.declared.call.Reply.TheVariants.{Ran}
use Rattle.session.specs.Calls.{State, short, step_admitted, world, trail, concluded, stepped, attempted, counted, further, tries, unless_short, ran}
use Rattle.history.specs.History.{Phase, setting_up, running, closed, Point, at, with_machine, set_up, go_on, did, after, opening, reached}
use Rattle.history.proofs.Keeps.{after_keeps}
use Rattle.history.proofs.Sound.{Sound, of_write, last_named, last_unnamed, held_after, sound_try, sound_change, sound_opening}

-- ==== the reads sheet only grows
module _ (rights : ℕ → Right) (xs : List ReadLine) where
  abbrev From : State → Type 0
  From s = Extends xs s.reads

  from_concluded : (s : State) (r : Result Cpu Refusal) (t : Trail) → Extends xs t.reads → From (concluded rights s r t).0
  from_concluded s (Err e) t g = g
  from_concluded s (Ok c) t g = g

  from_stepped : (s : State) (c : Result (Unit {0}) Refusal) → From s → From (stepped rights s c).0
  from_stepped s (Err e) g = g
  from_stepped s (Ok x) g = let o = runs (one_step s.machine.cpu) (world rights s) (trail s) in from_concluded s o.0 o.1 (extends_trans xs s.reads o.1.reads g (grows (one_step s.machine.cpu) (world rights s) (trail s)).reads)

  from_try : (m n : ℕ) (s : State) → From s → From (attempted rights m n s).0
  unfolding attempted
  from_try m n s g = from_stepped s (step_admitted m n s.machine) g

  from_after : (cs : List Call) (p : Point) → From p.state → From (after rights cs p).0.state
  from_after cs p g = after_keeps rights From from_try (λ s m h. h) cs p g

grown_further : (rights : ℕ → Right) (m n : ℕ) (s : State) (k : ℕ) (c : Option Refusal) → Extends s.reads (further (attempted rights m n) s k c).0.reads
grown_further rights m n s k None = from_try rights s.reads m n s (extends_none s.reads)
grown_further rights m n s k (Some e) = extends_none s.reads

-- ==== what lines say of two boards
all_front : (P : ReadLine → Type 0) (xs ys : List ReadLine) → All P (xs ++ ys) → All P xs
all_front P [] ys h = tt
all_front P (x ∷ xs) ys h = (h.0, all_front P xs ys h.1)

all_before : (P : ReadLine → Type 0) (xs ys : List ReadLine) → Extends xs ys → All P ys → All P xs
all_before P xs ys g h = all_front P xs g.0 (subst (All P) g.1 h)

same_here : (f g : ℕ → ℕ) (x : ReadLine) (xs : List ReadLine) (a : ℕ) (t : Bool) → eqb x.address a ≡ t → f x.address ≡ x.byte → g x.address ≡ x.byte → (names of_line a xs ≡ true → f a ≡ g a) → (t || names of_line a xs) ≡ true → f a ≡ g a
same_here f g x xs a true q p r h e = let z : x.address ≡ a = grind (arith, nat_tests) in ap f (sym z) ∙ (p ∙ (sym r ∙ ap g z))
same_here f g x xs a false q p r h e = h e

same_at : (f g : ℕ → ℕ) (xs : List ReadLine) (a : ℕ) → All (λ l. f l.address ≡ l.byte) xs → All (λ l. g l.address ≡ l.byte) xs → names of_line a xs ≡ true → f a ≡ g a
same_at f g [] a p q e = let z : ◌≡◌ {A = ℕ} 0 1 = cc in absurd (omega arith)
same_at f g (x ∷ xs) a p q e = same_here f g x xs a (eqb x.address a) refl p.0 q.0 (same_at f g xs a p.1 q.1) e

or_false_is : (x : Bool) → (x || false) ≡ true → x ≡ true
or_false_is true e = refl
or_false_is false e = e

-- ==== two sessions that differ in the bytes of their boards alone
abbrev with_board : (ℕ → ℕ) → State → State
with_board b s = record { machine = s.machine; reads = s.reads; writes = s.writes; bytes = b }

pub record Twin (f g : ℕ → ℕ) (s t : State) : Type 0 where
  pub same : t ≡ with_board t.bytes s
  pub left : Sound f s
  pub right : Sound g t

module _ (rights : ℕ → Right) (f g : ℕ → ℕ) where
  -- the other board held the bytes on these lines
  abbrev Told : List ReadLine → Type 0
  Told xs = All (λ l. g l.address ≡ l.byte) xs

  agree_by : (s : State) (b : ℕ → ℕ) (ys : List ReadLine) → Sound f s → Sound g (with_board b s) → All (λ l. f l.address ≡ l.byte) ys → Told ys → (a : ℕ) (t : Bool) → names of_write a s.writes ≡ t → (names of_line a ys || t) ≡ true → b a ≡ s.bytes a
  agree_by s b ys h k p q a true e n = k.board a ∙ (last_named s.writes a (g a) (f a) e ∙ sym (h.board a))
  agree_by s b ys h k p q a false e n = k.board a ∙ (last_unnamed s.writes a (g a) e ∙ (sym (same_at f g ys a p q (or_false_is (names of_line a ys) n)) ∙ (sym (last_unnamed s.writes a (f a) e) ∙ sym (h.board a))))

  agree : (s : State) (b : ℕ → ℕ) (ys : List ReadLine) → Sound f s → Sound g (with_board b s) → All (λ l. f l.address ≡ l.byte) ys → Told ys → Agrees b (world rights s) ys
  agree s b ys h k p q = λ a n. agree_by s b ys h k p q a (names of_write a s.writes) refl n

  -- outcomes that differ in the board alone
  abbrev Same : State × Result (Unit {0}) Refusal → State × Result (Unit {0}) Refusal → Type 0
  Same o q = (b : ℕ → ℕ) × (q ≡ (with_board b o.0, o.1))

  concluded_same : (s : State) (b : ℕ → ℕ) (r : Result Cpu Refusal) (t : Trail) → Same (concluded rights s r t) (concluded rights (with_board b s) r t)
  concluded_same s b (Err e) t = (b, refl)
  concluded_same s b (Ok c) t = (stores rights t.own b, refl)

  concluded_reads : (s : State) (r : Result Cpu Refusal) (t : Trail) → Told (concluded rights s r t).0.reads → Told t.reads
  concluded_reads s (Err e) t h = h
  concluded_reads s (Ok c) t h = h

  stepped_same : (s : State) (b : ℕ → ℕ) (c : Result (Unit {0}) Refusal) → Sound f s → Sound g (with_board b s) → Told (stepped rights s c).0.reads → Same (stepped rights s c) (stepped rights (with_board b s) c)
  stepped_same s b (Err e) h k n = (b, refl)
  stepped_same s b (Ok x) h k n =
      let p = one_step s.machine.cpu in
      let o = runs p (world rights s) (trail s) in
      let e = replays b p (world rights s) (trail s) (agree s b o.1.reads h k (held_after rights f s h) (concluded_reads s o.0 o.1 n)) in
      let q = concluded_same s b o.0 o.1 in
      (q.0, ap (λ z. concluded rights (with_board b s) z.0 z.1) e ∙ q.1)

  try_same : (m n : ℕ) (s : State) (b : ℕ → ℕ) → Sound f s → Sound g (with_board b s) → Told (attempted rights m n s).0.reads → Same (attempted rights m n s) (attempted rights m n (with_board b s))
  unfolding attempted
  try_same m n s b h k t = stepped_same s b (step_admitted m n s.machine) h k t

  -- two outcomes, twins with one answer
  abbrev Twins : {R : Type 0} → State × R → State × R → Type 0
  Twins o q = Twin f g o.0 q.0 × (q.1 ≡ o.1)

  try_twin : (m n : ℕ) (s t : State) → Twin f g s t → Told (attempted rights m n s).0.reads → Twins (attempted rights m n s) (attempted rights m n t)
  try_twin m n s t w h =
      let o = attempted rights m n s in
      let q = try_same m n s t.bytes w.left (subst (Sound g) w.same w.right) h in
      let e : attempted rights m n t ≡ (with_board q.0 o.0, o.1) = ap (attempted rights m n) w.same ∙ q.1 in
      let p = ap (λ z. z.0) e in
      (record { same = p ∙ ap (λ z. with_board z o.0) (sym (ap (λ z. z.bytes) p)); left = sound_try rights f m n s w.left; right = sound_try rights g m n t w.right }, ap (λ z. z.1) e)

  further_twin : (m n : ℕ) (s t : State) (k : ℕ) (c : Option Refusal) → Twin f g s t → Told (further (attempted rights m n) s k c).0.reads → Twins (further (attempted rights m n) s k c) (further (attempted rights m n) t k c)
  further_twin m n s t k None w h = let q = try_twin m n s t w h in (q.0, ap (counted k) q.1)
  further_twin m n s t k (Some e) w h = (w, refl)

  tries_twin : (m n k : ℕ) (s t : State) → Twin f g s t → Told (tries (attempted rights m n) k s).0.reads → Twins (tries (attempted rights m n) k s) (tries (attempted rights m n) k t)
  unfolding tries
  tries_twin m n zero s t w h = (w, refl)
  tries_twin m n (suc k) s t w h =
      let y = tries (attempted rights m n) k s in
      let x = tries (attempted rights m n) k t in
      let q = tries_twin m n k s t w (all_before _ _ _ (grown_further rights m n y.0 y.1.completed y.1.refusal) h) in
      subst (λ (a : Answer). Twins (further (attempted rights m n) y.0 y.1.completed y.1.refusal) (further (attempted rights m n) x.0 a.completed a.refusal)) (sym q.1) (further_twin m n y.0 x.0 y.1.completed y.1.refusal q.0 h)

  unless_twin : (b : Bool) (s t : State) (o q : State × Answer) → Twin f g s t → (Told o.0.reads → Twins o q) → Told (unless_short b s o).0.reads → Twins (unless_short b s o) (unless_short b t q)
  unless_twin true s t o q w h k = (w, refl)
  unless_twin false s t o q w h k = h k

  ran_twin : (m n k : ℕ) (s t : State) → Twin f g s t → Told (ran rights m n k s).0.reads → Twins (ran rights m n k s) (ran rights m n k t)
  unfolding ran
  ran_twin m n k s t w h =
      let x = tries (attempted rights m n) k s in
      let y = tries (attempted rights m n) k t in
      subst (λ z. Twins (unless_short (short m n s.machine) s x) (unless_short (short m n z.machine) t y)) (sym w.same) (unless_twin (short m n s.machine) s t x y w (tries_twin m n k s t w) h)

  -- what the session holds is changed alike
  change_twin : (s t : State) (h : Machine → Machine) → Twin f g s t → Twin f g (with_machine s (h s.machine)) (with_machine t (h t.machine))
  change_twin s t h w = record { same = ap (λ z. with_machine z (h z.machine)) w.same; left = sound_change rights f s (h s.machine) w.left; right = sound_change rights g t (h t.machine) w.right }

  -- two calls, twins with one phase and one reply
  abbrev Paired : Point × Reply → Point × Reply → Type 0
  Paired o q = Twin f g o.0.state q.0.state × (q.0.phase ≡ o.0.phase) × (q.1 ≡ o.1)

  ran_paired : (m n k : ℕ) (s t : State) → Twin f g s t → Told (ran rights m n k s).0.reads → Paired (at running (ran rights m n k s).0, Ran (ran rights m n k s).1) (at running (ran rights m n k t).0, Ran (ran rights m n k t).1)
  ran_paired m n k s t w h = let q = ran_twin m n k s t w h in (q.0, refl, ap Ran q.1)

  go_twin : (c : Call) (s t : State) → Twin f g s t → Told (go_on rights c s).0.state.reads → Paired (go_on rights c s) (go_on rights c t)
  go_twin (Preset r v) s t w h = (w, refl, refl)
  go_twin (Start pc) s t w h = (w, refl, refl)
  go_twin (Step l) s t w h = ran_paired l.reads l.writes 1 s t w h
  go_twin (Run k l) s t w h = ran_paired l.reads l.writes k s t w h
  go_twin Close s t w h = (w, refl, refl)

  did_twin : (c : Call) (p : Phase) (s t : State) → Twin f g s t → Told (did rights c p s).0.state.reads → Paired (did rights c p s) (did rights c p t)
  did_twin c setting_up s t w h = let e = ap (λ (z : State). z.machine) w.same in (change_twin s t (λ m. (set_up c m).1) w, ap (λ m. (set_up c m).0) e, ap (λ m. (set_up c m).2) e)
  did_twin c running s t w h = go_twin c s t w h
  did_twin c closed s t w h = (w, refl, refl)

  -- two lists of calls
  pub record Agree (o q : Point × List Reply) : Type 0 where
    pub twin : Twin f g o.0.state q.0.state
    pub phase : q.0.phase ≡ o.0.phase
    pub replies : q.1 ≡ o.1

  after_twin : (cs : List Call) (p : Phase) (s t : State) → Twin f g s t → Told (after rights cs (at p s)).0.state.reads → Agree (after rights cs (at p s)) (after rights cs (at p t))
  unfolding after
  after_twin [] p s t w h = record { twin = w; phase = refl; replies = refl }
  after_twin (c ∷ cs) p s t w h =
      let o = did rights c p s in
      let q = did rights c p t in
      let d = did_twin c p s t w (all_before _ _ _ (from_after rights o.0.state.reads cs o.0 (extends_none o.0.state.reads)) h) in
      let a = after_twin cs o.0.phase o.0.state q.0.state d.0 h in
      let e : at o.0.phase q.0.state ≡ q.0 = ap (λ z. at z q.0.state) (sym d.1) in
      let b = subst (λ z. Agree (after rights cs o.0) (after rights cs z)) e a in
      record { twin = b.twin; phase = b.phase; replies = λ i. d.2 i ∷ b.replies i }

  pub twins : (cs : List Call) → Told (reached rights f cs).state.reads → Agree (after rights cs (opening f)) (after rights cs (opening g))
  twins cs h = after_twin cs setting_up (opening f).state (opening g).state (record { same = refl; left = sound_opening rights f; right = sound_opening rights g }) h
