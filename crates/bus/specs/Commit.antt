-- What an accepted step leaves: its bytes on the board, and a writes line for each.
use Rattle.std.specs.Prelude.{ℕ, ◌+◌, Bool, List, [], ◌∷◌, ◌++◌, length, take, drop, nat_le}
use Rattle.board.specs.declared.Right.{Right}
use Rattle.board.specs.Meaning.{stored}
use Rattle.bus.specs.declared.line.WriteLine.{WriteLine}

-- the bytes f of a board with those rights once each of the bytes is stored, in order
abbrev pub stores : (ℕ → Right) → List (ℕ × ℕ) → (ℕ → ℕ) → ℕ → ℕ
stores rights [] f = f
stores rights (c ∷ cs) f = stores rights cs (stored (rights c.0) c.0 c.1 f)

-- a writes line of that step for each of the bytes, in order
abbrev pub write_lines : ℕ → List (ℕ × ℕ) → List WriteLine
write_lines step [] = []
write_lines step (c ∷ cs) = record { step = step; address = c.0; byte = c.1 } ∷ write_lines step cs

-- whether a sheet has room for n lines after its used ones
abbrev pub has_room : {L : Type 0} → ℕ → ℕ → List L → Bool
has_room used n sheet = nat_le (used + n) (length sheet)

-- a sheet with new lines after its used ones; lines past them are untouched
abbrev pub entered : {L : Type 0} → ℕ → List L → List L → List L
entered used new sheet = take used sheet ++ (new ++ drop (used + length new) sheet)
