-- The number and the place of each refusal.
use Rattle.std.specs.Prelude.{ℕ, ◌-◌, true, List, ◌++◌, length, replicate, codes}
use Rattle.std.specs.Fmt.{decimal, digits}
use Rattle.bus.specs.declared.refusal.Refusal.{Refusal}
use Rattle.bus.specs.declared.refusal.Refusal.TheVariants.{NoRight, NotServed, ReservedEncoding, ForbiddenMode, BadLengthByte, TooLong, ReadsFull, WritesFull, SheetTooShort, NoSuchRegister, StepLimit}

abbrev pub number_of : Refusal → ℕ
number_of (NoRight a) = 10
number_of (NotServed pc) = 16
number_of (ReservedEncoding a) = 18
number_of (ForbiddenMode a) = 19
number_of (BadLengthByte a) = 20
number_of (TooLong a) = 70
number_of ReadsFull = 71
number_of WritesFull = 72
number_of SheetTooShort = 73
number_of NoSuchRegister = 74
number_of StepLimit = 75

abbrev pub place_of : Refusal → ℕ
place_of (NoRight a) = a
place_of (NotServed pc) = pc
place_of (ReservedEncoding a) = a
place_of (ForbiddenMode a) = a
place_of (BadLengthByte a) = a
place_of (TooLong a) = a
place_of ReadsFull = 0
place_of WritesFull = 0
place_of SheetTooShort = 0
place_of NoSuchRegister = 0
place_of StepLimit = 0

-- a number in capital hexadecimal digits, with zeros before it up to eight (48 is `0`)
abbrev pub eight_digits : ℕ → List ℕ
eight_digits n = replicate (8 - length (digits 16 true n)) 48 ++ digits 16 true n

-- what a refusal prints: its number, and its place
abbrev pub refusal_text : Refusal → List ℕ
refusal_text r = decimal (number_of r) ++ (codes " at " ++ eight_digits (place_of r))
