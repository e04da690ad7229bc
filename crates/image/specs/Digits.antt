-- Bytes written as hexadecimal digits, two a byte, the high one first.
use Rattle.std.specs.Prelude.{ℕ, ◌+◌, ◌-◌, ◌*◌, ◌%◌, ◌&&◌, List, [], ◌∷◌, length, slice_index, Option, Some, None, unwrap_or, is_some, Result, Ok, Err, nat_le, ◌==◌, if◌then◌else◌}
use Rattle.std.specs.List.{list_all}
use Rattle.image.specs.declared.fault.Fault.{Fault}
use Rattle.image.specs.declared.fault.Fault.TheVariants.{BadDigit, OddDigits}

-- the value of a digit: 0 to 9, A to F, a to f
abbrev pub digit_of : ℕ → Option ℕ
digit_of byte =
    if nat_le 48 byte && nat_le byte 57 then Some (byte - 48)
    else (if nat_le 65 byte && nat_le byte 70 then Some (byte - 65 + 10)
    else (if nat_le 97 byte && nat_le byte 102 then Some (byte - 97 + 10)
    else None))

-- the byte that two digits spell
abbrev pub pair : ℕ → ℕ → ℕ
pair high low = 16 * unwrap_or (digit_of high) 0 + unwrap_or (digit_of low) 0

-- the bytes that digits spell
abbrev pub spelled : List ℕ → List ℕ
spelled [] = []
spelled (high ∷ []) = []
spelled (high ∷ low ∷ digits) = pair high low ∷ spelled digits

-- the bytes of a text that is nothing but digits, two a byte
abbrev pub bytes_of : List ℕ → Result (List ℕ) Fault
bytes_of text =
    if list_all (λ byte. is_some (digit_of byte)) text
    then (if length text % 2 == 0 then Ok (spelled text) else Err OddDigits)
    else Err BadDigit

-- the 16-bit number at a place, the high byte first
abbrev pub word : List ℕ → ℕ → ℕ
word bytes place = 256 * slice_index bytes place + slice_index bytes (place + 1)
