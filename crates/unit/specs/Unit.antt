-- The control unit's board: its ROM from 0 on, its sensor page from 8000h on and its RAM from 10000h on.
use Rattle.std.specs.Prelude.{ℕ, List, length, slice_index}
use Rattle.board.specs.declared.Right.{Right}
use Rattle.board.specs.declared.Right.TheVariants.{ReadOnly, ReadWrite}
use Rattle.board.specs.Meaning.{over, held, reading_byte, cut}
use Rattle.unit.specs.declared.TheConstants.{ROM, SENSORS, RAM, READINGS}

-- the right at each address, with so many bytes of ROM and of RAM
abbrev pub unit_rights : ℕ → ℕ → ℕ → Right
unit_rights rom ram = cut SENSORS (over ReadOnly ROM rom) (cut RAM (over ReadOnly SENSORS 32) (over ReadWrite RAM ram))

-- the byte at each address, with those bytes in ROM and in RAM
abbrev pub unit_bytes : List ℕ → List ℕ → ℕ → ℕ
unit_bytes rom ram =
    cut SENSORS (held ROM (length rom) (slice_index rom)) (cut RAM (held SENSORS 32 (reading_byte READINGS)) (held RAM (length ram) (slice_index ram)))
