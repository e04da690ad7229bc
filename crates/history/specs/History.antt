-- Whole lists of calls, and what stands of each.
use Rattle.std.specs.Prelude.{◌≡◌, ℕ, ◌+◌, min, List, [], ◌∷◌, ◌++◌, map, length, take, Ok, Err, Result, ◌≢◌}
use Rattle.board.specs.declared.Right.{Right}
use Rattle.board.specs.declared.Right.TheVariants.{NoAccess}
use Rattle.bus.specs.declared.refusal.Refusal.{Refusal}
use Rattle.bus.specs.declared.line.WriteLine.{WriteLine}
use Rattle.bus.specs.Sheets.{latest, All}
use Rattle.machine.specs.declared.held.Machine.{Machine}
use Rattle.machine.specs.declared.answer.Answer.{Answer}
use Rattle.history.specs.declared.call.Lines.{Lines}
use Rattle.history.specs.declared.call.Call.{Call}
use Rattle.history.specs.declared.call.Call.TheVariants.{Preset, Start, Step, Run, Close}
use Rattle.history.specs.declared.call.Reply.{Reply}
use Rattle.history.specs.declared.call.Reply.TheVariants.{Accepted, Refused, Ran, OutOfPlace}
use Rattle.history.specs.declared.list.Session.{Session}
use Rattle.history.specs.declared.list.Session.TheVariants.{Setup, Running, Closed}
use Rattle.session.specs.Calls.{State, Moment, state_at, opened, preset_to, preset_answer, started, ran, Comes}

-- ---- one call after another

-- a session is set up, runs, or is closed
pub data Phase : Type 0 where
  setting_up : Phase
  running : Phase
  closed : Phase

-- where a session stands, with its sheets and its board
pub record Point : Type 0 where
  pub phase : Phase
  pub state : State

abbrev pub at : Phase → State → Point
at p s = record { phase = p; state = s }

abbrev pub with_machine : State → Machine → State
with_machine s m = record { machine = m; reads = s.reads; writes = s.writes; bytes = s.bytes }

abbrev pub replied : Result (Unit {0}) Refusal → Reply
replied (Ok x) = Accepted
replied (Err e) = Refused e

-- A call that is out of place does nothing: no program that makes it would build.

-- what a call comes to before the start: the phase, what the session holds, and the reply
abbrev pub set_up : Call → Machine → Phase × Machine × Reply
set_up (Preset r v) m = (setting_up, preset_to r v m, replied (preset_answer r))
set_up (Start pc) m = (running, started pc m, Accepted)
set_up (Step l) m = (setting_up, m, OutOfPlace)
set_up (Run k l) m = (setting_up, m, OutOfPlace)
set_up Close m = (setting_up, m, OutOfPlace)

-- what it comes to from the start on
abbrev pub go_on : (ℕ → Right) → Call → State → Point × Reply
go_on rights (Preset r v) s = (at running s, OutOfPlace)
go_on rights (Start pc) s = (at running s, OutOfPlace)
go_on rights (Step l) s = (at running (ran rights l.reads l.writes 1 s).0, Ran (ran rights l.reads l.writes 1 s).1)
go_on rights (Run k l) s = (at running (ran rights l.reads l.writes k s).0, Ran (ran rights l.reads l.writes k s).1)
go_on rights Close s = (at closed s, Accepted)

-- what a call comes to
abbrev pub did : (ℕ → Right) → Call → Phase → State → Point × Reply
did rights c setting_up s = (at (set_up c s.machine).0 (with_machine s (set_up c s.machine).1), (set_up c s.machine).2)
did rights c running s = go_on rights c s
did rights c closed s = (at closed s, OutOfPlace)

-- a list of calls, one after another, and what they answered
unfoldable pub after : (ℕ → Right) → List Call → Point → Point × List Reply
after rights [] p = (p, [])
after rights (c ∷ cs) p = ((after rights cs (did rights c p.phase p.state).0).0, (did rights c p.phase p.state).1 ∷ (after rights cs (did rights c p.phase p.state).0).1)

-- ---- histories

-- a session at its opening, beside unused sheets and a board that holds the bytes f
abbrev pub opening : (ℕ → ℕ) → Point
opening f = at setting_up (record { machine = opened; reads = []; writes = []; bytes = f })

-- where a history leads, on a board with those rights that held f at the start, and what its calls answered
abbrev pub reached : (ℕ → Right) → (ℕ → ℕ) → List Call → Point
reached rights f calls = (after rights calls (opening f)).0

abbrev pub answered : (ℕ → Right) → (ℕ → ℕ) → List Call → List Reply
answered rights f calls = (after rights calls (opening f)).1

-- the byte on the last writes line for address a, else d
abbrev pub last_written : ℕ → ℕ → List WriteLine → ℕ
last_written a d ls = latest (λ l. l.address) (λ l. l.byte) a d ls

-- two sessions that cannot be told apart by their answers, by what they hold, and by the used lines of their sheets
pub record Alike (p q : Point) (xs ys : List Reply) : Type 0 where
  pub answers : xs ≡ ys
  pub phase : p.phase ≡ q.phase
  pub machine : p.state.machine ≡ q.state.machine
  pub reads : p.state.reads ≡ q.state.reads
  pub writes : p.state.writes ≡ q.state.writes

-- runs of so many steps each, beside sheets of so many lines
abbrev pub runs_of : Lines → List ℕ → List Call
runs_of l [] = []
runs_of l (k ∷ ks) = Run k l ∷ runs_of l ks

abbrev pub sum : List ℕ → ℕ
sum [] = 0
sum (k ∷ ks) = k + sum ks

-- The session statement: what stands after a history, the list of calls, on a board with those rights that held f at the start.
pub record Stands (rights : ℕ → Right) (f : ℕ → ℕ) (calls : List Call) : Type 0 where
  -- each address with a right holds the byte on the last used writes line for it; without such a line, the start's byte
  pub written : (a : ℕ) → (rights a ≢ NoAccess) → (reached rights f calls).state.bytes a ≡ last_written a (f a) (reached rights f calls).state.writes
  -- the same calls on any board with the same right at every address, which held at the start every byte on the used reads lines at its
  -- address, answer the same and leave the same session and the same used lines on both sheets
  pub replayed : (rights' : ℕ → Right) (g : ℕ → ℕ) → ((a : ℕ) → rights' a ≡ rights a) → All (λ l. g l.address ≡ l.byte) (reached rights f calls).state.reads → Alike (reached rights' g calls) (reached rights f calls) (answered rights' g calls) (answered rights f calls)
  -- from here, with the sheets' lengths kept, any two lists of runs with equal sums leave the same session, used lines and board
  pub summed : (l : Lines) (js ks : List ℕ) → sum js ≡ sum ks → reached rights f (calls ++ runs_of l js) ≡ reached rights f (calls ++ runs_of l ks)

-- ---- what code leaves

abbrev pub phase_of : Session → Phase
phase_of (Setup s) = setting_up
phase_of (Running s) = running
phase_of (Closed s) = closed

abbrev pub machine_of : Session → Machine
machine_of (Setup s) = s.machine
machine_of (Running s) = s.machine
machine_of (Closed s) = s.machine

-- where a session in a phase stands at a moment
abbrev pub point : Phase → Moment → Point
point p t = at p (state_at t)

-- how many lines the sheets have
abbrev pub lines_of : Moment → Lines
lines_of t = record { reads = length t.reads; writes = length t.writes }

-- a call gets no more lines of a sheet than there are
abbrev pub lent_lines : Lines → Lines → Lines
lent_lines all l = record { reads = min l.reads all.reads; writes = min l.writes all.writes }

abbrev pub lent : Lines → Call → Call
lent all (Preset r v) = Preset r v
lent all (Start pc) = Start pc
lent all (Step l) = Step (lent_lines all l)
lent all (Run k l) = Run k (lent_lines all l)
lent all Close = Close

-- a run of so many steps beside so many lines, that finds a session at a moment
abbrev pub ran_beside : Lines → ℕ → Moment → State × Answer
ran_beside l count t = ran t.rights l.reads l.writes count (state_at t)

-- what a call comes to that finds a session in a phase at a moment
abbrev pub did_at : Moment → Phase → Call → Point × Reply
did_at t p c = did t.rights (lent (lines_of t) c) p (state_at t)

-- the first so many calls of a list, as they are carried out from a moment on
abbrev pub given_calls : ℕ → List Call → Moment → List Call
given_calls count calls t = map (lent (lines_of t)) (take count calls)

-- calls that found a session at the moment t, and left it in the phase p at u, did just what the outcome o says: the answer r, and the point.
-- Rights and lengths are as they were, used lines are only added and stay within the sheets, and lines past them are untouched
pub record Follows {R : Type 0} (o : Point × R) (r : R) (p : Phase) (t u : Moment) : Type 0 where
  pub answer : r ≡ o.1
  pub phase : p ≡ o.0.phase
  pub comes : Comes {R = Unit {0}} (o.0.state, tt) tt t u

-- after the history h, on a board that held f at the start, the calls led to the point q and answered rs, and the statement stands there
pub record Recounts (rights : ℕ → Right) (f : ℕ → ℕ) (h calls : List Call) (q : Point) (rs : List Reply) : Type 0 where
  pub leads : reached rights f (h ++ calls) ≡ q
  pub answers : answered rights f (h ++ calls) ≡ answered rights f h ++ rs
  pub stands : Stands rights f (h ++ calls)
