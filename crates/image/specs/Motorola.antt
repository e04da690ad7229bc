-- Motorola S-records: lines 'STLL..CC', a type digit, a count of the bytes after it, an address, data and a checksum, in hexadecimal digits.
use Rattle.std.specs.Prelude.{ℕ, ◌+◌, ◌-◌, ◌*◌, ◌%◌, ◌&&◌, ◌||◌, List, [], ◌∷◌, length, take, drop, sum, slice_index, Option, Some, None, Result, Ok, Err, nat_le, ◌==◌, if◌then◌else◌}
use Rattle.image.specs.declared.fault.Fault.{Fault}
use Rattle.image.specs.declared.fault.Fault.TheVariants.{NoMark, UnknownType, WrongLength, WrongChecksum}
use Rattle.image.specs.Gives.{◌>>=◌}
use Rattle.image.specs.Digits.{bytes_of, word}
use Rattle.image.specs.Records.{Said, Bytes, Remark, End, wants}

-- how many bytes of address a record has, by the digit of its type
abbrev pub width_of : ℕ → Option ℕ
width_of kind =
    if kind == 48 || (kind == 49 || (kind == 53 || kind == 57)) then Some 2
    else (if kind == 50 || (kind == 54 || kind == 56) then Some 3
    else (if kind == 51 || kind == 55 then Some 4
    else None))

-- the address, the highest byte first
abbrev pub address_of : ℕ → List ℕ → ℕ
address_of width bytes =
    if width == 2 then word bytes 1
    else (if width == 3 then 65536 * slice_index bytes 1 + word bytes 2
    else 65536 * word bytes 1 + word bytes 3)

-- what a record says by its type: S0 a header, which says nothing of bytes; S1 to S3 data; S5 and S6 a count of records, which says nothing of bytes; S7 to S9 the end
abbrev pub by_type : ℕ → ℕ → List ℕ → Result Said Fault
by_type kind address bytes =
    if kind == 48 then Ok Remark
    else (if kind == 49 || (kind == 50 || kind == 51) then Ok (Bytes address bytes)
    else (if kind == 53 || kind == 54 then wants 0 bytes Remark
    else wants 0 bytes End))

-- what the bytes of a record say: as many as the count and one, room for the address and the checksum, and their sum ends in FFh, so that the checksum is the ones' complement of the sum of the others
abbrev pub of_bytes : ℕ → ℕ → List ℕ → Result Said Fault
of_bytes kind width bytes =
    let count = slice_index bytes 0 in
    if length bytes == count + 1 && nat_le (width + 1) count
    then (if sum bytes % 256 == 255
    then by_type kind (address_of width bytes) (take (count - (width + 1)) (drop (width + 1) bytes))
    else Err WrongChecksum)
    else Err WrongLength

-- what a line says whose type has an address of so many bytes
abbrev pub of_digits : ℕ → Option ℕ → List ℕ → Result Said Fault
of_digits kind (Some width) digits = bytes_of digits >>= of_bytes kind width
of_digits kind None digits = Err UnknownType

-- what a line says: an S, a type, and then nothing but digits
abbrev pub motorola_record : List ℕ → Result Said Fault
motorola_record [] = Err NoMark
motorola_record (mark ∷ []) = Err NoMark
motorola_record (mark ∷ kind ∷ digits) = if mark == 83 then of_digits kind (width_of kind) digits else Err NoMark
