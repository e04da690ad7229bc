-- What an instruction does to the processor and the board.
use Rattle.std.specs.Prelude.{ℕ}
use Rattle.board.specs.Block.{above}
use Rattle.number.specs.declared.width.Size.{Size}
use Rattle.bus.specs.Program.{Program, give}
use Rattle.instruction.specs.declared.operation.OneOperation.{OneOperation}
use Rattle.instruction.specs.declared.operation.OneOperation.TheVariants.{Inc, Dec, Test, Push, Pop, Jmp, Jsr}
use Rattle.instruction.specs.declared.operand.Operand.{Operand}
use Rattle.instruction.specs.declared.action.Action.{Action}
use Rattle.instruction.specs.declared.action.Action.TheVariants.{Two, One, Branch, Bsr, Rsr, Nop, Strings}
use Rattle.processor.specs.declared.cpu.Cpu.{Cpu}
use Rattle.processor.specs.Registers.{gone_on}
use Rattle.execute.specs.Two.{two_operands}
use Rattle.execute.specs.One.{altering, pushing, popping, jumping, calling, calling_relative, returning, branched}
use Rattle.strings.specs.Strings.{string_instruction}

-- an instruction of one operand
unfoldable pub one_operand : Cpu → OneOperation → Size → Operand → ℕ → Program Cpu
one_operand c Inc s a next = altering c Inc s a next
one_operand c Dec s a next = altering c Dec s a next
one_operand c Test s a next = altering c Test s a next
one_operand c Push s a next = pushing c a next
one_operand c Pop s a next = popping c a next
one_operand c Jmp s a next = jumping c a
one_operand c Jsr s a next = calling c a next

-- an action, where the next instruction lies at the address next
unfoldable pub acted : Cpu → Action → ℕ → Program Cpu
acted c (Two o s t a b) next = two_operands c o s t a b next
acted c (One o s a) next = one_operand c o s a next
acted c (Branch k d) next = give (branched c k d next)
acted c (Bsr d) next = calling_relative c d next
acted c Rsr next = returning c
acted c Nop next = give (gone_on c c.flags next)
acted c (Strings o s x y) next = string_instruction c o s x y next

-- an instruction of l bytes at PC: the next one lies behind it
abbrev pub execute : Cpu → Action → ℕ → Program Cpu
execute c a l = acted c a (above c.pc l)
