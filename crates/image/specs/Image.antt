-- Whole images: bytes as they stand, or a text of records.
use Rattle.std.specs.Prelude.{ℕ, ◌+◌, ◌-◌, ◌^◌, ◌&&◌, List, [], ◌∷◌, length, fold, slice_set, min, max, Option, Some, None, Result, Ok, Err, nat_le, nat_lt, ◌==◌, if◌then◌else◌}
use Rattle.image.specs.declared.fault.Fault.TheVariants.{PastLastAddress}
use Rattle.image.specs.declared.fault.Problem.{Problem}
use Rattle.image.specs.declared.notation.Notation.{Notation}
use Rattle.image.specs.declared.notation.Notation.TheVariants.{Intel, Motorola}
use Rattle.image.specs.declared.extent.Extent.{Extent}
use Rattle.image.specs.Lines.{lines}
use Rattle.image.specs.Texts.{Cells, cells, fails, told}

-- the notation of an image, by its first bytes: a colon begins Intel HEX, an S and a decimal digit S-records, and anything else is no text of records
abbrev pub notation_of : List ℕ → Option Notation
notation_of [] = None
notation_of (first ∷ []) = if first == 58 then Some Intel else None
notation_of (first ∷ second ∷ bytes) =
    if first == 58 then Some Intel
    else (if first == 83 && (nat_le 48 second && nat_le second 57) then Some Motorola
    else None)

-- what an image says in a notation; with none its bytes lie as they stand, from an origin on, and a fault is one of line 1
abbrev pub bytes_in : Option Notation → ℕ → List ℕ → Cells
bytes_in None origin text = if nat_le (origin + length text) (2 ^ 32) then Ok (cells origin text) else fails 1 PastLastAddress
bytes_in (Some notation) origin text = told notation 1 0 (lines text)

-- each byte of an image with its address, in the order of the file, or its first fault
abbrev pub bytes_at : ℕ → List ℕ → Cells
bytes_at origin text = bytes_in (notation_of text) origin text

-- f of what a result has
abbrev pub of_ok : {A B : Type 0} → (A → B) → Result A Problem → Result B Problem
of_ok f (Ok x) = Ok (f x)
of_ok f (Err problem) = Err problem

-- the lowest and the highest address so far, and one byte more
abbrev pub covered : Option Extent → ℕ × ℕ → Option Extent
covered None cell = Some (record { first = cell.0; last = cell.0 })
covered (Some extent) cell = Some (record { first = min extent.first cell.0; last = max extent.last cell.0 })

-- the lowest and the highest address of bytes, if there are any
abbrev pub extent_of : List (ℕ × ℕ) → Option Extent
extent_of bytes = fold covered None bytes

-- memory from an address base on, once a byte is put where its address says; a byte that lies elsewhere is left out
abbrev pub put : ℕ → List ℕ → ℕ × ℕ → List ℕ
put base memory cell =
    if nat_le base cell.0 && nat_lt (cell.0 - base) (length memory)
    then slice_set memory (cell.0 - base) cell.1
    else memory

-- the same for each of some bytes in turn, so that where two have one address the later one stands
abbrev pub filled : ℕ → List ℕ → List (ℕ × ℕ) → List ℕ
filled base memory bytes = fold (put base) memory bytes
