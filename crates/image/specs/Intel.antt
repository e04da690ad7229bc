-- Intel HEX: lines ':LLAAAATTDD..CC', a count of data bytes, a 16-bit address, a type, the data and a checksum, in hexadecimal digits.
use Rattle.std.specs.Prelude.{ℕ, ◌+◌, ◌*◌, ◌%◌, List, [], ◌∷◌, length, take, drop, sum, slice_index, Result, Ok, Err, ◌==◌, if◌then◌else◌}
use Rattle.image.specs.declared.fault.Fault.{Fault}
use Rattle.image.specs.declared.fault.Fault.TheVariants.{NoMark, UnknownType, WrongLength, WrongChecksum}
use Rattle.image.specs.Gives.{◌>>=◌}
use Rattle.image.specs.Digits.{bytes_of, word}
use Rattle.image.specs.Records.{Said, Bytes, Base, Remark, End, wants}

-- what a record says by its type: data; the end; a segment, in units of 16; an entry point, which says nothing of bytes; the upper 16 bits of addresses; an entry point
abbrev pub by_type : ℕ → ℕ → List ℕ → Result Said Fault
by_type kind address bytes =
    if kind == 0 then Ok (Bytes address bytes)
    else (if kind == 1 then wants 0 bytes End
    else (if kind == 2 then wants 2 bytes (Base (16 * word bytes 0))
    else (if kind == 3 then wants 4 bytes Remark
    else (if kind == 4 then wants 2 bytes (Base (65536 * word bytes 0))
    else (if kind == 5 then wants 4 bytes Remark
    else Err UnknownType)))))

-- what the bytes of a record say: as many as the count and five, and their sum ends in 00h
abbrev pub of_bytes : List ℕ → Result Said Fault
of_bytes bytes =
    let count = slice_index bytes 0 in
    if length bytes == count + 5
    then (if sum bytes % 256 == 0
    then by_type (slice_index bytes 3) (word bytes 1) (take count (drop 4 bytes))
    else Err WrongChecksum)
    else Err WrongLength

-- what a line says: a colon, and then nothing but digits
abbrev pub intel_record : List ℕ → Result Said Fault
intel_record [] = Err NoMark
intel_record (mark ∷ digits) = if mark == 58 then bytes_of digits >>= of_bytes else Err NoMark
