-- What a board means, a right and a byte for each address, and what the makes of the crate `board` mean.
use Rattle.std.specs.Prelude.{ℕ, List, length, slice_index}
use Rattle.board.specs.declared.Right.{Right}
use Rattle.board.specs.declared.Right.TheVariants.{ReadOnly, ReadWrite}
use Rattle.board.specs.Meaning.{over, held, reading_byte, cut}

pub record Meaning : Type 0 where
  pub rights : ℕ → Right
  pub bytes : ℕ → ℕ

-- bytes from a base address on, read and written
abbrev pub ram_of : ℕ → List ℕ → Meaning
ram_of base bytes = record { rights = over ReadWrite base (length bytes); bytes = held base (length bytes) (slice_index bytes) }

-- bytes from a base address on, for reading only
abbrev pub rom_of : ℕ → List ℕ → Meaning
rom_of base bytes = record { rights = over ReadOnly base (length bytes); bytes = held base (length bytes) (slice_index bytes) }

-- sixteen readings from a base address on, for reading only
abbrev pub sensor_of : ℕ → List ℕ → Meaning
sensor_of base readings = record { rights = over ReadOnly base 32; bytes = held base 32 (reading_byte readings) }

-- below an address one board, from it on another
abbrev pub cut_of : ℕ → Meaning → Meaning → Meaning
cut_of a lower upper = record { rights = cut a lower.rights upper.rights; bytes = cut a lower.bytes upper.bytes }
