-- What a bus shows of a step, and what it means that code runs a program on it.
use Rattle.std.specs.Prelude.{◌≡◌, ℕ, ◌≤◌, List, ◌++◌, length, take, drop, Result}
use Rattle.std.specs.Borrow.{GName, MutBor}
use Rattle.board.specs.declared.Right.{Right}
use Rattle.bus.specs.declared.line.ReadLine.{ReadLine}
use Rattle.bus.specs.declared.line.WriteLine.{WriteLine}
use Rattle.bus.specs.declared.refusal.Refusal.{Refusal}
use Rattle.bus.specs.Buffer.{OneRun}
use Rattle.bus.specs.Program.{Program, World, Trail, runs, Leads}

-- a list that begins with another
abbrev pub Extends : {X : Type 0} → List X → List X → Type 0
Extends {X} xs ys = (zs : List X) × (ys ≡ xs ++ zs)

-- what a step has left only grows: lines and bytes are added at the end
pub record Grown (t u : Trail) : Type 0 where
  pub reads : Extends t.reads u.reads
  pub own : Extends t.own u.own

-- what a step leaves has room: its lines on a reads sheet of so many, and its bytes in one run
pub record Roomy (limit : ℕ) (t : Trail) : Type 0 where
  pub lines : length t.reads ≤ limit
  pub bytes : OneRun t.own

-- what a bus shows: what the step finds, what it has left so far, the whole reads sheet with the count of its used lines,
-- and the name of the loan by which the sheet is held
pub record Seen : Type 0 where
  pub world : World
  pub trail : Trail
  pub sheet : List ReadLine
  pub used : ℕ
  pub loan : GName

-- the reads sheet from one moment to a later one: it is as long as it was, used lines stay within it, and lines past the used ones are untouched
pub record Later (used : ℕ) (sheet : List ReadLine) (used' : ℕ) (sheet' : List ReadLine) : Type 0 where
  pub more : used ≤ used'
  pub within : used ≤ length sheet → used' ≤ length sheet'
  pub long : length sheet' ≡ length sheet
  pub past : drop used' sheet' ≡ drop used' sheet

-- code that found a bus at v, answered r and left it at w has run the program p: r is an answer that p may come to, and given room it is the one
-- that p comes to, and w has what p leaves. With room or without, lines and bytes are only added
pub record Runs {A : Type 0} (p : Program A) (v : Seen) (r : Result A Refusal) (w : Seen) : Type 0 where
  pub leads : Leads p r
  pub comes : Roomy (length v.sheet) (runs p v.world v.trail).1 → runs p v.world v.trail ≡ (r, w.trail)
  pub grown : Grown v.trail w.trail
  pub world : w.world ≡ v.world
  pub loan : w.loan ≡ v.loan
  pub later : Later v.used v.sheet w.used w.sheet

-- what the bus of a step shows, on a board with those rights and bytes, a reads sheet of which so many lines are used, the used lines of the
-- writes sheet, and the bytes that the step has set, each with its address
abbrev pub step_seen : (ℕ → Right) → (ℕ → ℕ) → MutBor (List ReadLine) → ℕ → List WriteLine → List (ℕ × ℕ) → Seen
step_seen rights bytes reads used writes own = record {
  world = record { rights = rights; bytes = bytes; writes = writes };
  trail = record { reads = take used reads.now; own = own };
  sheet = reads.now;
  used = used;
  loan = reads.ghost_name;
}
