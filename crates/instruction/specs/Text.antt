-- The text of operations and operands, as they stand in assembly code.
use Rattle.std.specs.Prelude.{ℕ, suc, ℤ, pos, negsuc, List, ◌++◌, codes, false}
use Rattle.std.specs.Fmt.{digits, decimal}
use Rattle.std.specs.Int.{cast_unsigned, w32}
use Rattle.instruction.specs.declared.operation.TwoOperation.{TwoOperation}
use Rattle.instruction.specs.declared.operation.TwoOperation.TheVariants.{Mov, Movs, Movz, Movea, Add, Addc, Sub, Subc, Cmp, Neg, And, Or, Xor, Not, Shl, Sha, Rot}
use Rattle.instruction.specs.declared.operation.OneOperation.{OneOperation}
use Rattle.instruction.specs.declared.operation.OneOperation.TheVariants.{Inc, Dec, Test, Push, Pop, Jmp, Jsr}
use Rattle.instruction.specs.declared.operation.StringOperation.{StringOperation}
use Rattle.instruction.specs.declared.operation.StringOperation.TheVariants.{Movc, Movcf, Movcs}
use Rattle.instruction.specs.declared.operand.Base.{Base}
use Rattle.instruction.specs.declared.operand.Base.TheVariants.{Register as On, Pc, Zero}
use Rattle.instruction.specs.declared.operand.Address.{Address}
use Rattle.instruction.specs.declared.operand.Address.TheVariants.{Indirect, Displaced, Deferred}
use Rattle.instruction.specs.declared.operand.Operand.{Operand}
use Rattle.instruction.specs.declared.operand.Operand.TheVariants.{Register, Immediate, Memory, Indexed, Double, Increment, Decrement}
use Rattle.instruction.specs.declared.action.Length.{Length}
use Rattle.instruction.specs.declared.action.Length.TheVariants.{Literal, Register as InRegister}
use Rattle.instruction.specs.declared.action.StringOperand.{StringOperand}

abbrev pub two_name : TwoOperation → List ℕ
two_name Mov = codes "mov"
two_name Movs = codes "movs"
two_name Movz = codes "movz"
two_name Movea = codes "movea"
two_name Add = codes "add"
two_name Addc = codes "addc"
two_name Sub = codes "sub"
two_name Subc = codes "subc"
two_name Cmp = codes "cmp"
two_name Neg = codes "neg"
two_name And = codes "and"
two_name Or = codes "or"
two_name Xor = codes "xor"
two_name Not = codes "not"
two_name Shl = codes "shl"
two_name Sha = codes "sha"
two_name Rot = codes "rot"

abbrev pub one_name : OneOperation → List ℕ
one_name Inc = codes "inc"
one_name Dec = codes "dec"
one_name Test = codes "test"
one_name Push = codes "push"
one_name Pop = codes "pop"
one_name Jmp = codes "jmp"
one_name Jsr = codes "jsr"

abbrev pub string_name : StringOperation → List ℕ
string_name Movc = codes "movcu"
string_name Movcf = codes "movcfu"
string_name Movcs = codes "movcs"

-- a register
abbrev pub register_text : ℕ → List ℕ
register_text n = codes "r" ++ decimal n

-- a number in hexadecimal, and one with its sign before it
abbrev pub hexadecimal : ℕ → List ℕ
hexadecimal n = codes "0x" ++ digits 16 false n

abbrev pub signed_text : ℤ → List ℕ
signed_text (pos n) = hexadecimal n
signed_text (negsuc n) = codes "-" ++ hexadecimal (suc n)

-- a displacement with its base; from zero it is an address
abbrev pub displaced_text : Base → ℤ → List ℕ
displaced_text (On n) d = signed_text d ++ (codes "[" ++ (register_text n ++ codes "]"))
displaced_text Pc d = signed_text d ++ codes "[pc]"
displaced_text Zero d = codes "/" ++ hexadecimal (cast_unsigned w32 d)

abbrev pub address_text : Address → List ℕ
address_text (Indirect n) = codes "[" ++ (register_text n ++ codes "]")
address_text (Displaced b d) = displaced_text b d
address_text (Deferred b d) = codes "[" ++ (displaced_text b d ++ codes "]")

abbrev pub operand_text : Operand → List ℕ
operand_text (Register n) = register_text n
operand_text (Immediate v) = codes "#" ++ hexadecimal v
operand_text (Memory a) = address_text a
operand_text (Indexed a x) = address_text a ++ (codes "(" ++ (register_text x ++ codes ")"))
operand_text (Double b i o) = signed_text o ++ (codes "[" ++ (displaced_text b i ++ codes "]"))
operand_text (Increment n) = codes "[" ++ (register_text n ++ codes "+]")
operand_text (Decrement n) = codes "[-" ++ (register_text n ++ codes "]")

abbrev pub length_text : Length → List ℕ
length_text (Literal n) = codes "#" ++ hexadecimal n
length_text (InRegister n) = register_text n

abbrev pub string_text : StringOperand → List ℕ
string_text x = operand_text x.operand ++ (codes ", " ++ length_text x.length)
