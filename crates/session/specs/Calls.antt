-- What each call on a session does.
use Rattle.std.specs.Prelude.{◌≡◌, ℕ, zero, suc, ◌+◌, ◌-◌, ◌≤◌, Bool, true, false, cond, ◌||◌, List, [], ◌++◌, length, take, drop, replicate, Some, None, Ok, Err, Option, Result, nat_le, nat_lt}
use Rattle.board.specs.declared.Right.{Right}
use Rattle.bus.specs.declared.refusal.Refusal.{Refusal}
use Rattle.bus.specs.declared.refusal.Refusal.TheVariants.{ReadsFull, WritesFull, SheetTooShort, NoSuchRegister, StepLimit}
use Rattle.bus.specs.declared.line.ReadLine.{ReadLine}
use Rattle.bus.specs.declared.line.WriteLine.{WriteLine}
use Rattle.bus.specs.Program.{World, Trail, runs}
use Rattle.bus.specs.Commit.{stores, write_lines}
use Rattle.processor.specs.declared.cpu.Cpu.{Cpu}
use Rattle.processor.specs.Registers.{with_register, gone_on}
use Rattle.execute.specs.Step.{one_step}
use Rattle.machine.specs.declared.held.Machine.{Machine}
use Rattle.machine.specs.declared.answer.Answer.{Answer}

-- ---- what the calls work on

-- what a session holds, the used lines of both sheets, and the bytes of the board
pub record State : Type 0 where
  pub machine : Machine
  pub reads : List ReadLine
  pub writes : List WriteLine
  pub bytes : ℕ → ℕ

-- a moment of a session: what it holds, its two sheets, and its board
pub record Moment : Type 0 where
  pub machine : Machine
  pub reads : List ReadLine
  pub writes : List WriteLine
  pub rights : ℕ → Right
  pub bytes : ℕ → ℕ

-- with a board of those rights and bytes
abbrev pub moment : {B : Type 0} → (B → ℕ → Right) → (B → ℕ → ℕ) → Machine → B → List ReadLine → List WriteLine → Moment
moment rights bytes m board reads writes = record { machine = m; reads = reads; writes = writes; rights = rights board; bytes = bytes board }

-- the state at a moment: the used lines are a sheet's first
abbrev pub state_at : Moment → State
state_at t = record { machine = t.machine; reads = take t.machine.read t.reads; writes = take t.machine.written t.writes; bytes = t.bytes }

-- ---- before the start

-- at its opening a session holds nothing but zeros
abbrev pub opened : Machine
opened = record {
  cpu = record { registers = replicate 32 0; pc = 0; flags = record { cy = false; ov = false; s = false; z = false } };
  completed = 0;
  read = 0;
  written = 0;
}

abbrev pub with_cpu : Machine → Cpu → Machine
with_cpu m c = record { cpu = c; completed = m.completed; read = m.read; written = m.written }

-- register n preset to v; there is none above 31
abbrev pub preset_to : ℕ → ℕ → Machine → Machine
preset_to n v m = cond (nat_lt n 32) (with_cpu m (with_register m.cpu n v)) m

abbrev pub preset_answer : ℕ → Result (Unit {0}) Refusal
preset_answer n = cond (nat_lt n 32) (Ok tt) (Err NoSuchRegister)

-- a start at an address
abbrev pub started : ℕ → Machine → Machine
started pc m = with_cpu m (gone_on m.cpu m.cpu.flags pc)

-- ---- one step

-- whether a sheet is shorter than its used lines: the reads sheet has m lines, the writes sheet n
abbrev pub short : ℕ → ℕ → Machine → Bool
short m n s = nat_lt m s.read || nat_lt n s.written

-- whether a step may be tried, whatever the instruction: it is refused for a sheet too short, a billion steps complete, fewer than 300 free
-- reads lines, fewer than 256 free writes lines, in this order
abbrev pub step_admitted : ℕ → ℕ → Machine → Result (Unit {0}) Refusal
step_admitted m n s =
    cond (short m n s) (Err SheetTooShort)
    (cond (nat_le 1000000000 s.completed) (Err StepLimit)
    (cond (nat_lt (m - s.read) 300) (Err ReadsFull)
    (cond (nat_lt (n - s.written) 256) (Err WritesFull)
    (Ok tt))))

-- what a step finds, on a board with those rights, and what it begins with
abbrev pub world : (ℕ → Right) → State → World
world rights s = record { rights = rights; bytes = s.bytes; writes = s.writes }

abbrev pub trail : State → Trail
trail s = record { reads = s.reads; own = [] }

-- a step that was refused keeps its reads lines, and nothing else; an accepted one stores its bytes in order, with a writes line each
abbrev pub concluded : (ℕ → Right) → State → Result Cpu Refusal → Trail → State × Result (Unit {0}) Refusal
concluded rights s (Err e) t = (
  record {
    machine = record { cpu = s.machine.cpu; completed = s.machine.completed; read = length t.reads; written = s.machine.written };
    reads = t.reads;
    writes = s.writes;
    bytes = s.bytes;
  },
  Err e,
)
concluded rights s (Ok c) t = (
  record {
    machine = record { cpu = c; completed = s.machine.completed + 1; read = length t.reads; written = s.machine.written + length t.own };
    reads = t.reads;
    writes = s.writes ++ write_lines (s.machine.completed + 1) t.own;
    bytes = stores rights t.own s.bytes;
  },
  Ok tt,
)

-- the step itself, where it is admitted: one instruction decoded and carried out
abbrev pub stepped : (ℕ → Right) → State → Result (Unit {0}) Refusal → State × Result (Unit {0}) Refusal
stepped rights s (Err e) = (s, Err e)
stepped rights s (Ok clear) = concluded rights s (runs (one_step s.machine.cpu) (world rights s) (trail s)).0 (runs (one_step s.machine.cpu) (world rights s) (trail s)).1

-- one try of a step, beside a reads sheet of m lines and a writes sheet of n
unfoldable pub attempted : (ℕ → Right) → ℕ → ℕ → State → State × Result (Unit {0}) Refusal
attempted rights m n s = stepped rights s (step_admitted m n s.machine)

-- ---- runs

-- the answer once k steps were completed and one more was tried
abbrev pub counted : ℕ → Result (Unit {0}) Refusal → Answer
counted k (Ok done) = record { completed = k + 1; refusal = None }
counted k (Err e) = record { completed = k; refusal = Some e }

-- one more try, unless one was refused
abbrev pub further : (State → State × Result (Unit {0}) Refusal) → State → ℕ → Option Refusal → State × Answer
further try s k (Some e) = (s, record { completed = k; refusal = Some e })
further try s k None = ((try s).0, counted k (try s).1)

-- so many tries, up to the first refusal
unfoldable pub tries : (State → State × Result (Unit {0}) Refusal) → ℕ → State → State × Answer
tries try zero s = (s, record { completed = 0; refusal = None })
tries try (suc k) s = further try (tries try k s).0 (tries try k s).1.completed (tries try k s).1.refusal

abbrev pub unless_short : Bool → State → State × Answer → State × Answer
unless_short true s o = (s, record { completed = 0; refusal = Some SheetTooShort })
unless_short false s o = o

-- a run of so many steps; a sheet that is too short is told even where no step is tried
unfoldable pub ran : (ℕ → Right) → ℕ → ℕ → ℕ → State → State × Answer
ran rights m n count s = unless_short (short m n s.machine) s (tries (attempted rights m n) count s)

-- ---- what a call's code leaves

-- a try of a step, and a run of so many, that find a session at a moment
abbrev pub attempted_at : Moment → State × Result (Unit {0}) Refusal
attempted_at t = attempted t.rights (length t.reads) (length t.writes) (state_at t)

abbrev pub ran_at : ℕ → Moment → State × Answer
ran_at count t = ran t.rights (length t.reads) (length t.writes) count (state_at t)

-- a call that found a session at the moment t and left it at u did just what the outcome o says: its answer r, what the session holds, the used
-- lines and the board's bytes. Rights and lengths are as they were, used lines are only added and stay within the sheets, and lines past them
-- are untouched
pub record Comes {R : Type 0} (o : State × R) (r : R) (t u : Moment) : Type 0 where
  pub answer : r ≡ o.1
  pub left : state_at u ≡ o.0
  pub kept : u.rights ≡ t.rights
  pub reads_length : length u.reads ≡ length t.reads
  pub writes_length : length u.writes ≡ length t.writes
  pub reads_more : t.machine.read ≤ u.machine.read
  pub writes_more : t.machine.written ≤ u.machine.written
  pub reads_within : t.machine.read ≤ length t.reads → u.machine.read ≤ length t.reads
  pub writes_within : t.machine.written ≤ length t.writes → u.machine.written ≤ length t.writes
  pub reads_past : drop u.machine.read u.reads ≡ drop u.machine.read t.reads
  pub writes_past : drop u.machine.written u.writes ≡ drop u.machine.written t.writes
