-- Which instructions may be made, by the decoder or a caller.
use Rattle.std.specs.Prelude.{ℕ, ◌^◌, Bool, true, false, cond, not, ◌&&◌, Ok, Err, Result, is_ok, ◌==◌, nat_le, nat_lt}
use Rattle.number.specs.declared.width.Size.{Size}
use Rattle.number.specs.Sizes.{byte_count}
use Rattle.number.specs.Words.{fits}
use Rattle.bus.specs.declared.refusal.Refusal.{Refusal}
use Rattle.bus.specs.declared.refusal.Refusal.TheVariants.{ReservedEncoding, ForbiddenMode, NoSuchRegister}
use Rattle.instruction.specs.declared.operation.Access.{Access}
use Rattle.instruction.specs.declared.operation.Access.TheVariants.{Read, Write, Modify, Address as AddressOnly}
use Rattle.instruction.specs.declared.operation.TwoOperation.{TwoOperation}
use Rattle.instruction.specs.declared.operation.TwoOperation.TheVariants.{Mov, Movs, Movz, Movea, Add, Addc, Sub, Subc, Cmp, Neg, And, Or, Xor, Not, Shl, Sha, Rot}
use Rattle.instruction.specs.declared.operation.OneOperation.{OneOperation}
use Rattle.instruction.specs.declared.operation.OneOperation.TheVariants.{Inc, Dec, Test, Push, Pop, Jmp, Jsr}
use Rattle.instruction.specs.declared.operand.Base.{Base}
use Rattle.instruction.specs.declared.operand.Base.TheVariants.{Register as On, Pc, Zero}
use Rattle.instruction.specs.declared.operand.Address.{Address}
use Rattle.instruction.specs.declared.operand.Address.TheVariants.{Indirect, Displaced, Deferred}
use Rattle.instruction.specs.declared.operand.Operand.{Operand}
use Rattle.instruction.specs.declared.operand.Operand.TheVariants.{Register, Immediate, Memory, Indexed, Double, Increment, Decrement}
use Rattle.instruction.specs.declared.action.Length.{Length}
use Rattle.instruction.specs.declared.action.Length.TheVariants.{Literal, Register as InRegister}
use Rattle.instruction.specs.declared.action.StringOperand.{StringOperand}
use Rattle.instruction.specs.declared.action.Action.{Action}
use Rattle.instruction.specs.declared.action.Action.TheVariants.{Two, One, Branch, Bsr, Rsr, Nop, Strings}
use Rattle.instruction.specs.Operations.{first_access, second_access, one_access}
use Rattle.instruction.specs.Modes.{immediate_verdict, register_verdict}

-- ---- no register above 31
abbrev pub base_named : Base → Bool
base_named (On n) = nat_lt n 32
base_named Pc = true
base_named Zero = true

abbrev pub address_named : Address → Bool
address_named (Indirect n) = nat_lt n 32
address_named (Displaced b d) = base_named b
address_named (Deferred b d) = base_named b

abbrev pub operand_named : Operand → Bool
operand_named (Register n) = nat_lt n 32
operand_named (Immediate v) = true
operand_named (Memory a) = address_named a
operand_named (Indexed a x) = address_named a && nat_lt x 32
operand_named (Double b i o) = base_named b
operand_named (Increment n) = nat_lt n 32
operand_named (Decrement n) = nat_lt n 32

abbrev pub length_named : Length → Bool
length_named (Literal n) = true
length_named (InRegister n) = nat_lt n 32

abbrev pub string_named : StringOperand → Bool
string_named x = operand_named x.operand && length_named x.length

abbrev pub registers_named : Action → Bool
registers_named (Two o s t x y) = operand_named x && operand_named y
registers_named (One o s x) = operand_named x
registers_named (Branch c d) = true
registers_named (Bsr d) = true
registers_named Rsr = true
registers_named Nop = true
registers_named (Strings o s x y) = string_named x && string_named y

-- ---- no immediate that is written
abbrev pub writes : Access → Bool
writes Read = false
writes Write = true
writes Modify = true
writes AddressOnly = false

abbrev pub is_immediate : Operand → Bool
is_immediate (Register n) = false
is_immediate (Immediate v) = true
is_immediate (Memory a) = false
is_immediate (Indexed a x) = false
is_immediate (Double b i o) = false
is_immediate (Increment n) = false
is_immediate (Decrement n) = false

abbrev pub immediate_written : Action → Bool
immediate_written (Two o s t x y) = writes (second_access o) && is_immediate y
immediate_written (One o s x) = writes (one_access o) && is_immediate x
immediate_written (Branch c d) = false
immediate_written (Bsr d) = false
immediate_written Rsr = false
immediate_written Nop = false
immediate_written (Strings o s x y) = false

-- ---- everything else that no encoding could have given
-- an operand of that size that an instruction takes: an immediate has the operand's width
abbrev pub operand_taken : Access → Size → Operand → Bool
operand_taken a s (Register n) = is_ok (register_verdict a s n)
operand_taken a s (Immediate v) = is_ok (immediate_verdict a s) && nat_lt v (256 ^ byte_count s)
operand_taken a s (Memory x) = true
operand_taken a s (Indexed x i) = true
operand_taken a s (Double b i o) = true
operand_taken a s (Increment n) = true
operand_taken a s (Decrement n) = true

-- the sizes, in bytes, at which an operation is served: moves at all four, extensions to a wider one, counts of shifts as bytes, the rest at three
abbrev pub sizes_served : TwoOperation → ℕ → ℕ → Bool
sizes_served Mov s t = s == t
sizes_served Movs s t = nat_lt s t && nat_lt t 8
sizes_served Movz s t = nat_lt s t && nat_lt t 8
sizes_served Movea s t = nat_lt s 8 && t == 4
sizes_served Add s t = s == t && nat_lt t 8
sizes_served Addc s t = s == t && nat_lt t 8
sizes_served Sub s t = s == t && nat_lt t 8
sizes_served Subc s t = s == t && nat_lt t 8
sizes_served Cmp s t = s == t && nat_lt t 8
sizes_served Neg s t = s == t && nat_lt t 8
sizes_served And s t = s == t && nat_lt t 8
sizes_served Or s t = s == t && nat_lt t 8
sizes_served Xor s t = s == t && nat_lt t 8
sizes_served Not s t = s == t && nat_lt t 8
sizes_served Shl s t = s == 1 && nat_lt t 8
sizes_served Sha s t = s == 1 && nat_lt t 8
sizes_served Rot s t = s == 1 && nat_lt t 8

abbrev pub size_served : OneOperation → ℕ → Bool
size_served Inc s = nat_lt s 8
size_served Dec s = nat_lt s 8
size_served Test s = nat_lt s 8
size_served Push s = s == 4
size_served Pop s = s == 4
size_served Jmp s = s == 1
size_served Jsr s = s == 1

abbrev pub length_taken : Length → Bool
length_taken (Literal n) = nat_lt n 128
length_taken (InRegister n) = true

-- a string operand of an instruction of n bytes
abbrev pub string_taken : Size → ℕ → StringOperand → Bool
string_taken s n x = operand_taken AddressOnly s x.operand && (length_taken x.length && nat_lt x.place n)

abbrev pub action_taken : Action → ℕ → Bool
action_taken (Two o s t x y) n = sizes_served o (byte_count s) (byte_count t) && (operand_taken (first_access o) s x && operand_taken (second_access o) t y)
action_taken (One o s x) n = size_served o (byte_count s) && operand_taken (one_access o) s x
action_taken (Branch c d) n = nat_lt c 16 && (not (c == 11) && fits 16 d)
action_taken (Bsr d) n = fits 16 d
action_taken Rsr n = true
action_taken Nop n = true
action_taken (Strings o s x y) n = nat_lt (byte_count s) 4 && (string_taken s n x && string_taken s n y)

-- an instruction that may be made: an action of n bytes
abbrev pub lawful : Action → ℕ → Bool
lawful a n = registers_named a && (not (immediate_written a) && (action_taken a n && (nat_le 1 n && nat_le n 22)))

-- whether a caller may make it
abbrev pub admitted : Action → ℕ → Result (Unit {0}) Refusal
admitted a n =
    cond (not (registers_named a)) (Err NoSuchRegister)
    (cond (immediate_written a) (Err (ForbiddenMode 0))
    (cond (action_taken a n && (nat_le 1 n && nat_le n 22)) (Ok tt) (Err (ReservedEncoding 0))))
