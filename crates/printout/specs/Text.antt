-- What is printed, as text.
use Rattle.std.specs.Prelude.{ℕ, zero, suc, ◌*◌, ◌-◌, true, List, [], ◌++◌, length, replicate, Some, None, Option, codes, flat_map}
use Rattle.std.specs.Fmt.{digits}
use Rattle.board.specs.declared.Right.{Right}
use Rattle.board.specs.declared.Right.TheVariants.{NoAccess, ReadOnly, ReadWrite}
use Rattle.printout.specs.declared.region.Region.{Region}
use Rattle.board.specs.Block.{above, fetches}

-- a number in capital hexadecimal digits, with zeros before it up to a width (48 is `0`)
abbrev pub digits_of_width : ℕ → ℕ → List ℕ
digits_of_width width n = replicate (width - length (digits 16 true n)) 48 ++ digits 16 true n

-- a byte and the address that it lies at
abbrev pub byte_at_text : ℕ → ℕ → List ℕ
byte_at_text address byte = digits_of_width 8 address ++ codes " " ++ digits_of_width 2 byte

abbrev pub right_name : Right → List ℕ
right_name NoAccess = codes "none"
right_name ReadOnly = codes "read"
right_name ReadWrite = codes "read-write"

-- a byte of a board, where there is a right
abbrev pub cell_text : Option ℕ → List ℕ
cell_text (Some byte) = codes " " ++ digits_of_width 2 byte
cell_text None = codes " .."

abbrev pub cells_text : List (Option ℕ) → List ℕ
cells_text cells = flat_map cell_text cells

-- a line with the sixteen bytes from an address on
abbrev pub row_text : (ℕ → Right) → (ℕ → ℕ) → ℕ → List ℕ
row_text rights bytes a = codes "  " ++ digits_of_width 8 a ++ codes " " ++ cells_text (fetches rights bytes a 16) ++ codes "\n"

-- so many of them, one after another
abbrev pub rows_text : (ℕ → Right) → (ℕ → ℕ) → ℕ → ℕ → List ℕ
rows_text rights bytes from zero = []
rows_text rights bytes from (suc n) = rows_text rights bytes from n ++ row_text rights bytes (above from (n * 16))

-- a region: its addresses, its right and its first bytes
abbrev pub region_start : ℕ → ℕ → List ℕ
region_start first last = codes "  " ++ digits_of_width 8 first ++ codes "-" ++ digits_of_width 8 last ++ codes "  "

-- a name, with spaces after it up to ten characters (32 is a space)
abbrev pub in_column : List ℕ → List ℕ
in_column name = name ++ replicate (10 - length name) 32

abbrev pub region_rest : Right → List (Option ℕ) → List ℕ
region_rest NoAccess cells = codes "none"
region_rest ReadOnly cells = in_column (codes "read") ++ cells_text cells
region_rest ReadWrite cells = in_column (codes "read-write") ++ cells_text cells

abbrev pub region_text : Region → List ℕ
region_text r = region_start r.first r.last ++ region_rest r.right r.cells
