-- What one record says, in either format.
use Rattle.std.specs.Prelude.{ℕ, List, length, Result, Ok, Err, ◌==◌, if◌then◌else◌}
use Rattle.image.specs.declared.fault.Fault.{Fault}
use Rattle.image.specs.declared.fault.Fault.TheVariants.{WrongLength}
use Rattle.image.specs.declared.record.Record.{Record}
use Rattle.image.specs.declared.record.Record.TheVariants as records
use Rattle.image.specs.Digits.{spelled}

-- bytes from an address on; what the addresses after it are counted from; nothing about bytes; that there are no more records
pub data Said : Type 0 where
  Bytes : ℕ → List ℕ → Said
  Base : ℕ → Said
  Remark : Said
  End : Said

-- what a record says
abbrev pub said : Record → Said
said (records.Data address digits) = Bytes address (spelled digits.now)
said (records.Base base) = Base base
said records.Remark = Remark
said records.End = End

-- what a record says of a type that wants so many bytes of data
abbrev pub wants : ℕ → List ℕ → Said → Result Said Fault
wants count bytes what = if length bytes == count then Ok what else Err WrongLength
