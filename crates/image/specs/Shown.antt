-- What is wrong with an image, in words.
use Rattle.std.specs.Prelude.{ℕ, List, ◌++◌, codes}
use Rattle.std.specs.Fmt.{decimal}
use Rattle.image.specs.declared.fault.Fault.{Fault}
use Rattle.image.specs.declared.fault.Fault.TheVariants.{NoMark, UnknownType, BadDigit, OddDigits, WrongLength, WrongChecksum, PastLastAddress, NoEnd, AfterEnd}
use Rattle.image.specs.declared.fault.Problem.{Problem}

abbrev pub fault_text : Fault → List ℕ
fault_text NoMark = codes "no record begins here"
fault_text UnknownType = codes "a type of record that is not known"
fault_text BadDigit = codes "a byte that is no hexadecimal digit"
fault_text OddDigits = codes "an odd number of digits"
fault_text WrongLength = codes "a record of a wrong length"
fault_text WrongChecksum = codes "a wrong checksum"
fault_text PastLastAddress = codes "a byte past the address FFFFFFFF"
fault_text NoEnd = codes "no record that ends the text"
fault_text AfterEnd = codes "more after the end"

-- the number of the line, and what is wrong with it
abbrev pub problem_text : Problem → List ℕ
problem_text p = codes "line " ++ decimal p.line ++ codes ": " ++ fault_text p.fault
