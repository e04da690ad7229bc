-- What a text of records says, line by line: its bytes, each with its address, in the order of the text; or its first fault, with the line.
use Rattle.std.specs.Prelude.{ℕ, ◌+◌, ◌^◌, List, [], ◌∷◌, ◌++◌, length, Result, Ok, Err, nat_le, ◌==◌, if◌then◌else◌}
use Rattle.std.specs.Str.Lines.{strip_carriage_return}
use Rattle.image.specs.declared.fault.Fault.{Fault}
use Rattle.image.specs.declared.fault.Fault.TheVariants.{PastLastAddress, NoEnd, AfterEnd}
use Rattle.image.specs.declared.fault.Problem.{Problem}
use Rattle.image.specs.declared.notation.Notation.{Notation}
use Rattle.image.specs.declared.notation.Notation.TheVariants.{Intel, Motorola}
use Rattle.image.specs.Records.{Said, Bytes, Base, Remark, End}
use Rattle.image.specs.Intel.{intel_record}
use Rattle.image.specs.Motorola.{motorola_record}

-- bytes with their addresses, or a fault with its line
abbrev pub Cells : Type 0
Cells = Result (List (ℕ × ℕ)) Problem

-- bytes one after another, from an address on
abbrev pub cells : ℕ → List ℕ → List (ℕ × ℕ)
cells address [] = []
cells address (byte ∷ bytes) = (address, byte) ∷ cells (address + 1) bytes

-- a fault of a line
abbrev pub fails : ℕ → Fault → Cells
fails number fault = Err (record { line = number; fault = fault })

-- some bytes, and then what the rest says
abbrev pub with_front : List (ℕ × ℕ) → Cells → Cells
with_front front (Ok rest) = Ok (front ++ rest)
with_front front (Err problem) = Err problem

-- a record of a notation
abbrev pub record_of : Notation → List ℕ → Result Said Fault
record_of Intel line = intel_record line
record_of Motorola line = motorola_record line

-- what a line says: an empty one nothing, any other what its record says
abbrev pub line_of : Notation → List ℕ → Result Said Fault
line_of notation [] = Ok Remark
line_of notation (byte ∷ bytes) = record_of notation (byte ∷ bytes)

-- after the end only empty lines may stand
abbrev pub ended : ℕ → List (List ℕ) → Cells
ended number [] = Ok []
ended number (line ∷ lines) = if length (strip_carriage_return line) == 0 then ended (number + 1) lines else fails number AfterEnd

-- what a line says whose addresses are counted from a base, and then either what the lines after it say, counted from the base that it leaves, or, at the end, that they are empty; a record's bytes lie on past its base and 64 K, but not past FFFFFFFFh
abbrev pub by_line : ℕ → ℕ → Result Said Fault → (ℕ → Cells) → Cells → Cells
by_line number base (Err fault) on over = fails number fault
by_line number base (Ok (Bytes address bytes)) on over =
    if nat_le (base + address + length bytes) (2 ^ 32)
    then with_front (cells (base + address) bytes) (on base)
    else fails number PastLastAddress
by_line number base (Ok (Base next)) on over = on next
by_line number base (Ok Remark) on over = on base
by_line number base (Ok End) on over = over

-- what lines say, from a line's number and a base on
abbrev pub told : Notation → ℕ → ℕ → List (List ℕ) → Cells
told notation number base [] = fails number NoEnd
told notation number base (line ∷ lines) =
    by_line number base (line_of notation (strip_carriage_return line)) (λ next. told notation (number + 1) next lines) (ended (number + 1) lines)
