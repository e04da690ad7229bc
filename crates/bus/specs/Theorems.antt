-- Laws over all programs.
use Rattle.std.specs.Prelude.{◌≡◌, ℕ, ◌+◌, ◌≤◌, true, [], length}
use Rattle.board.specs.Meaning.{writable}
use Rattle.bus.specs.Sheets.{All}
use Rattle.bus.specs.Program.{Program, World, Trail, runs, listed}
use Rattle.bus.specs.Seen.{Roomy}
use Rattle.bus.specs.Bound.{Bounded}

-- The sheets tell all that a program depends on: on a board with the same rights that holds the same byte at each address that the run lists
-- or finds listed, the program answers the same and leaves the same lines and bytes.
abbrev pub Replays : Type 0 → Type 0
Replays T = (p : Program T) (w : World) (t : Trail) (f : ℕ → ℕ) → ((a : ℕ) → listed a w (runs p w t).1 ≡ true → f a ≡ w.bytes a) → runs p (record { rights = w.rights; bytes = f; writes = w.writes }) t ≡ runs p w t

-- A bounded program has room: with n free lines its lines fit the sheet, the bytes that it sets are one run of at most 256, and each may be stored.
abbrev pub Suffices : Type 0 → Type 0
Suffices T = (n limit : ℕ) (p : Program T) (w : World) (t : Trail) → Bounded n p → t.own ≡ [] → length t.reads + n ≤ limit → Roomy limit (runs p w t).1 × All (λ c. writable (w.rights c.0) ≡ true) (runs p w t).1.own
