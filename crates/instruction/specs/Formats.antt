-- The formats of instructions. PC is the address of the first byte.
use Rattle.std.specs.Prelude.{ℕ, ◌%◌, Bool, cond, Some, None, Ok, Err, Option, Result, ◌==◌, nat_lt}
use Rattle.std.specs.Option.{ok_or}
use Rattle.board.specs.Block.{above}
use Rattle.number.specs.declared.width.Size.{Size}
use Rattle.number.specs.declared.width.Size.TheVariants.{Halfword}
use Rattle.number.specs.Words.{bit}
use Rattle.bus.specs.declared.refusal.Refusal.{Refusal}
use Rattle.bus.specs.declared.refusal.Refusal.TheVariants.{NotServed, BadLengthByte}
use Rattle.bus.specs.Buffer.{offset}
use Rattle.bus.specs.Program.{Program, give, refuse, answer, ◌>>=◌, fetch_byte}
use Rattle.instruction.specs.declared.operation.Access.TheVariants.{Address}
use Rattle.instruction.specs.declared.operation.TwoOperation.{TwoOperation}
use Rattle.instruction.specs.declared.operation.OneOperation.{OneOperation}
use Rattle.instruction.specs.declared.operation.StringOperation.{StringOperation}
use Rattle.instruction.specs.declared.operation.StringOperation.TheVariants.{Movc, Movcf, Movcs}
use Rattle.instruction.specs.declared.operand.Operand.TheVariants.{Register as register}
use Rattle.instruction.specs.declared.opcode.Entry.{Entry}
use Rattle.instruction.specs.declared.opcode.Entry.TheVariants.{Two, One, Branch, Bsr, Rsr, Nop, Strings}
use Rattle.instruction.specs.declared.action.Length.{Length}
use Rattle.instruction.specs.declared.action.Length.TheVariants.{Literal, Register}
use Rattle.instruction.specs.declared.action.Action.{Action}
use Rattle.instruction.specs.declared.action.Action.TheVariants.{Two as two, One as one, Branch as branch, Bsr as bsr, Rsr as rsr, Nop as nop, Strings as strings}
use Rattle.instruction.specs.declared.action.StringOperand.{StringOperand}
use Rattle.instruction.specs.declared.part.Part.{Part}
use Rattle.instruction.specs.Operations.{first_access, second_access, one_access}
use Rattle.instruction.specs.Modes.{register_verdict}
use Rattle.instruction.specs.Opcodes.{entry}
use Rattle.instruction.specs.Decode.{part, displacement, permit, operand_at}

-- Format I: a register in the second byte, which is judged before the mode byte is fetched, and an operand with bit m
unfoldable pub register_first : ℕ → TwoOperation → Size → Size → Bool → ℕ → Program (Part Action)
register_first pc o s1 s2 m n =
    permit (above pc 1) (register_verdict (first_access o) s1 n) >>= λ _.
    operand_at (above pc 2) m s2 (second_access o) >>= λ x.
    give (part (two o s1 s2 (register n) x.value) x.next)

unfoldable pub register_second : ℕ → TwoOperation → Size → Size → Bool → ℕ → Program (Part Action)
register_second pc o s1 s2 m n =
    permit (above pc 1) (register_verdict (second_access o) s2 n) >>= λ _.
    operand_at (above pc 2) m s1 (first_access o) >>= λ x.
    give (part (two o s1 s2 x.value (register n)) x.next)

-- Format II: two operands, with bits m and m'
unfoldable pub two_modes : ℕ → TwoOperation → Size → Size → Bool → Bool → Program (Part Action)
two_modes pc o s1 s2 m m' =
    operand_at (above pc 2) m s1 (first_access o) >>= λ x.
    operand_at x.next m' s2 (second_access o) >>= λ y.
    give (part (two o s1 s2 x.value y.value) y.next)

-- by the second byte b: bit 7 clear is Format I, where bit 6 is m, bit 5 set makes the register the second operand and the low five bits name it;
-- bit 7 set is Format II, where bits 6 and 5 are m and m' and the low five bits are 0
unfoldable pub two_by : ℕ → TwoOperation → Size → Size → ℕ → Program (Part Action)
two_by pc o s1 s2 b =
    cond (nat_lt b 128)
    (cond (bit 5 b) (register_second pc o s1 s2 (bit 6 b) (b % 32)) (register_first pc o s1 s2 (bit 6 b) (b % 32)))
    (cond (b % 32 == 0) (two_modes pc o s1 s2 (bit 6 b) (bit 5 b)) (refuse (NotServed pc)))

unfoldable pub two_operands : ℕ → TwoOperation → Size → Size → Program (Part Action)
two_operands pc o s1 s2 = fetch_byte (above pc 1) >>= λ b. two_by pc o s1 s2 b

-- Format III
unfoldable pub one_operand : ℕ → OneOperation → Size → Bool → Program (Part Action)
one_operand pc o s m = operand_at (above pc 1) m s (one_access o) >>= λ x. give (part (one o s x.value) x.next)

-- a length byte b at p: bit 7 clear gives the length, set names a register in the low five bits
abbrev pub length_of : ℕ → ℕ → Result Length Refusal
length_of p b = cond (nat_lt b 128) (Ok (Literal b)) (cond (nat_lt (b % 128) 32) (Ok (Register (b % 32))) (Err (BadLengthByte p)))

unfoldable pub length_at : ℕ → Program Length
length_at p = fetch_byte p >>= λ b. answer (length_of p b)

-- a string operand at p, with its length byte after it
unfoldable pub string_at : ℕ → ℕ → Bool → Size → Program (Part StringOperand)
string_at pc p m s =
    operand_at p m s Address >>= λ x.
    length_at x.next >>= λ l.
    give (part (record { operand = x.value; length = l; place = offset pc x.next }) (above x.next 1))

-- Format VIIa: the low five bits of the second byte are the subcode, bits 6 and 5 are m and m'
abbrev pub string_operation : ℕ → Option StringOperation
string_operation n = cond (n == 8) (Some Movc) (cond (n == 10) (Some Movcf) (cond (n == 12) (Some Movcs) None))

unfoldable pub strings_by : ℕ → Size → ℕ → StringOperation → Program (Part Action)
strings_by pc s b o =
    string_at pc (above pc 2) (bit 6 b) s >>= λ x.
    string_at pc x.next (bit 5 b) s >>= λ y.
    give (part (strings o s x.value y.value) y.next)

unfoldable pub string_instruction : ℕ → Size → Program (Part Action)
string_instruction pc s =
    fetch_byte (above pc 1) >>= λ b.
    answer (ok_or (string_operation (b % 32)) (NotServed pc)) >>= λ o.
    strings_by pc s b o

-- the instruction of that opcode; a branch, in Format IV, has a displacement
unfoldable pub by_entry : ℕ → Entry → Program (Part Action)
by_entry pc (Two o s1 s2) = two_operands pc o s1 s2
by_entry pc (One o s m) = one_operand pc o s m
by_entry pc (Branch c s) = displacement s (above pc 1) >>= λ d. give (part (branch c d.value) d.next)
by_entry pc Bsr = displacement Halfword (above pc 1) >>= λ d. give (part (bsr d.value) d.next)
by_entry pc Rsr = give (part rsr (above pc 1))
by_entry pc Nop = give (part nop (above pc 1))
by_entry pc (Strings s) = string_instruction pc s

-- the instruction at PC
unfoldable pub decode : ℕ → Program (Part Action)
decode pc =
    fetch_byte pc >>= λ op.
    answer (ok_or (entry op) (NotServed pc)) >>= λ e.
    by_entry pc e
