use Rattle.std.specs.Prelude.{ℕ, List, codes}
use Rattle.number.specs.declared.width.Size.{Size}
use Rattle.number.specs.declared.width.Size.TheVariants.{Byte, Halfword, Word, Doubleword}

-- how many bytes a width has
abbrev pub byte_count : Size → ℕ
byte_count Byte = 1
byte_count Halfword = 2
byte_count Word = 4
byte_count Doubleword = 8

-- the letter that says a width
abbrev pub letter : Size → List ℕ
letter Byte = codes "b"
letter Halfword = codes "h"
letter Word = codes "w"
letter Doubleword = codes "d"
