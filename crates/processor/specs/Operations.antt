-- What operations come to, as numbers and flags.
use Rattle.std.specs.Prelude.{ℕ, ◌*◌, ◌%◌, ◌^◌, false}
use Rattle.number.specs.declared.flags.Flags.{Flags}
use Rattle.number.specs.Words.{signed, residue}
use Rattle.number.specs.Outcomes.{Outcome, added, subtracted, anded, ored, xored, inverted, shifted, arithmetic_shifted, rotated}
use Rattle.number.specs.declared.width.Size.{Size}
use Rattle.number.specs.declared.width.Size.TheVariants.{Byte, Halfword, Word, Doubleword}
use Rattle.number.specs.Sizes.{byte_count}
use Rattle.instruction.specs.declared.operation.TwoOperation.{TwoOperation}
use Rattle.instruction.specs.declared.operation.TwoOperation.TheVariants.{Mov, Movs, Movz, Movea, Add, Addc, Sub, Subc, Cmp, Neg, And, Or, Xor, Not, Shl, Sha, Rot}

-- moves leave all flags
abbrev pub moved : ℕ → Flags → Outcome
moved n f = record { number = n; flags = f }

-- the result of an instruction of two operands: v and w are the widths of the source and the destination in bits, f the flags before, x the
-- source and y the destination, of which the low bits count; a count is a signed byte
abbrev pub combined : TwoOperation → ℕ → ℕ → Flags → ℕ → ℕ → Outcome
combined Mov v w f x y = moved (x % 2 ^ w) f
combined Movs v w f x y = moved (residue w (signed v (x % 2 ^ v))) f
combined Movz v w f x y = moved (x % 2 ^ v % 2 ^ w) f
combined Movea v w f x y = moved (x % 2 ^ w) f
combined Add v w f x y = added w (y % 2 ^ w) (x % 2 ^ w) false
combined Addc v w f x y = added w (y % 2 ^ w) (x % 2 ^ w) f.cy
combined Sub v w f x y = subtracted w (y % 2 ^ w) (x % 2 ^ w) false
combined Subc v w f x y = subtracted w (y % 2 ^ w) (x % 2 ^ w) f.cy
combined Cmp v w f x y = subtracted w (y % 2 ^ w) (x % 2 ^ w) false
combined Neg v w f x y = subtracted w 0 (x % 2 ^ w) false
combined And v w f x y = anded w (y % 2 ^ w) (x % 2 ^ w) f
combined Or v w f x y = ored w (y % 2 ^ w) (x % 2 ^ w) f
combined Xor v w f x y = xored w (y % 2 ^ w) (x % 2 ^ w) f
combined Not v w f x y = inverted w (x % 2 ^ w) f
combined Shl v w f x y = shifted w (y % 2 ^ w) (signed 8 (x % 256))
combined Sha v w f x y = arithmetic_shifted w (y % 2 ^ w) (signed 8 (x % 256))
combined Rot v w f x y = rotated w (y % 2 ^ w) (signed 8 (x % 256))

-- at the sizes of an instruction; a doubleword serves moves only
abbrev pub result : TwoOperation → Size → Size → Flags → ℕ → ℕ → Outcome
result o s Byte f x y = combined o (8 * byte_count s) 8 f x y
result o s Halfword f x y = combined o (8 * byte_count s) 16 f x y
result o s Word f x y = combined o (8 * byte_count s) 32 f x y
result o s Doubleword f x y = moved x f
