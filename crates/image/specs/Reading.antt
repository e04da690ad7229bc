-- Where a reader stands in a text, and what is still to come.
use Rattle.std.specs.Prelude.{◌≡◌, ℕ, ◌<◌, List, [], length, Option, Some, None, Result, Ok, Err, if◌then◌else◌}
use Rattle.image.specs.declared.fault.Problem.{Problem}
use Rattle.image.specs.declared.reader.Piece.{Piece}
use Rattle.image.specs.declared.reader.Reader.{Reader}
use Rattle.image.specs.Digits.{spelled}
use Rattle.image.specs.Lines.{lines}
use Rattle.image.specs.Texts.{Cells, cells, with_front, told, ended}

-- what is to come
abbrev pub to_come : Reader → Cells
to_come r = if r.ended then ended r.line (lines r.rest.now) else told r.notation r.line r.base (lines r.rest.now)

-- the bytes of a piece
abbrev pub piece_cells : Piece → List (ℕ × ℕ)
piece_cells p = cells p.start (spelled p.digits.now)

-- what was to come, by what a step found: a fault, nothing more, or a piece and then what is to come after it
abbrev pub Steps : Reader → Result (Option (Piece × Reader)) Problem → Type 0
Steps r (Err problem) = to_come r ≡ Err problem
Steps r (Ok None) = to_come r ≡ Ok []
Steps r (Ok (Some found)) = (to_come r ≡ with_front (piece_cells found.0) (to_come found.1)) × (length found.1.rest.now < length r.rest.now)
