-- What every try keeps, every list of calls keeps.
use Rattle.std.proofs.Common.{ℕ, zero, suc, Bool, true, false, List, [], ◌∷◌, Some, None, Option}
use Rattle.board.specs.declared.Right.{Right}
use Rattle.bus.specs.declared.refusal.Refusal.{Refusal}
use Rattle.machine.specs.declared.held.Machine.{Machine}
use Rattle.machine.specs.declared.answer.Answer.{Answer}
use Rattle.history.specs.declared.call.Call.{Call}
use Rattle.history.specs.declared.call.Call.TheVariants.{Preset, Start, Step, Run, Close}
use Rattle.session.specs.Calls.{State, short, attempted, further, tries, unless_short, ran}
use Rattle.history.specs.History.{Phase, setting_up, running, closed, Point, with_machine, set_up, go_on, did, after}

-- P of a state is kept by every try, and says nothing of what the session holds besides its used lines
module _ (rights : ℕ → Right) (P : State → Type 0) (by_try : (m n : ℕ) (s : State) → P s → P (attempted rights m n s).0) where
  further_keeps : (m n : ℕ) (s : State) (k : ℕ) (c : Option Refusal) → P s → P (further (attempted rights m n) s k c).0
  further_keeps m n s k None h = by_try m n s h
  further_keeps m n s k (Some e) h = h

  tries_keep : (m n k : ℕ) (s : State) → P s → P (tries (attempted rights m n) k s).0
  unfolding tries
  tries_keep m n zero s h = h
  tries_keep m n (suc k) s h = let o = tries (attempted rights m n) k s in further_keeps m n o.0 o.1.completed o.1.refusal (tries_keep m n k s h)

  unless_keeps : (b : Bool) (s : State) (o : State × Answer) → P s → P o.0 → P (unless_short b s o).0
  unless_keeps true s o h k = h
  unless_keeps false s o h k = k

  pub ran_keeps : (m n k : ℕ) (s : State) → P s → P (ran rights m n k s).0
  unfolding ran
  ran_keeps m n k s h = unless_keeps (short m n s.machine) s (tries (attempted rights m n) k s) h (tries_keep m n k s h)

  module _ (by_change : (s : State) (m : Machine) → P s → P (with_machine s m)) where
    go_keeps : (c : Call) (s : State) → P s → P (go_on rights c s).0.state
    go_keeps (Preset r v) s h = h
    go_keeps (Start pc) s h = h
    go_keeps (Step l) s h = ran_keeps l.reads l.writes 1 s h
    go_keeps (Run k l) s h = ran_keeps l.reads l.writes k s h
    go_keeps Close s h = h

    did_keeps : (c : Call) (p : Phase) (s : State) → P s → P (did rights c p s).0.state
    did_keeps c setting_up s h = by_change s (set_up c s.machine).1 h
    did_keeps c running s h = go_keeps c s h
    did_keeps c closed s h = h

    pub after_keeps : (cs : List Call) (p : Point) → P p.state → P (after rights cs p).0.state
    unfolding after
    after_keeps [] p h = h
    after_keeps (c ∷ cs) p h = after_keeps cs (did rights c p.phase p.state).0 (did_keeps c p.phase p.state h)
