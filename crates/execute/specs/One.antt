-- Instructions of one operand, the stack, and jumps.
use Rattle.std.specs.Prelude.{ℕ, ◌%◌, ◌^◌, false, cond, ℤ}
use Rattle.board.specs.Block.{above}
use Rattle.number.specs.declared.flags.Flags.{Flags}
use Rattle.number.specs.declared.width.Size.{Size}
use Rattle.number.specs.declared.width.Size.TheVariants.{Byte, Halfword, Word, Doubleword}
use Rattle.number.specs.Sizes.{byte_count}
use Rattle.number.specs.Conditions.{condition}
use Rattle.number.specs.Outcomes.{Outcome, added, subtracted, tested}
use Rattle.bus.specs.Program.{Program, give, ◌>>=◌}
use Rattle.bus.specs.Wide.{ask_bytes, put_number}
use Rattle.instruction.specs.declared.operation.OneOperation.{OneOperation}
use Rattle.instruction.specs.declared.operation.OneOperation.TheVariants.{Inc, Dec, Test, Push, Pop, Jmp, Jsr}
use Rattle.instruction.specs.declared.operand.Operand.{Operand}
use Rattle.instruction.specs.Operations.{one_access}
use Rattle.processor.specs.declared.cpu.Cpu.{Cpu}
use Rattle.processor.specs.Registers.{register, with_register, gone_on}
use Rattle.processor.specs.Operands.{displaced, below, fetch_pointer, locate, read_at, write_at, location_address}
use Rattle.processor.specs.Operations.{moved}
use Rattle.execute.specs.Two.{taken, left}

-- what INC, DEC and TEST come to at w bits; of the operand x the low bits count
abbrev pub altered : OneOperation → ℕ → Flags → ℕ → Outcome
altered Inc w f x = added w (x % 2 ^ w) 1 false
altered Dec w f x = subtracted w (x % 2 ^ w) 1 false
altered Test w f x = tested w (x % 2 ^ w)
altered Push w f x = moved (x % 2 ^ w) f
altered Pop w f x = moved (x % 2 ^ w) f
altered Jmp w f x = moved (x % 2 ^ w) f
altered Jsr w f x = moved (x % 2 ^ w) f

abbrev pub one_result : OneOperation → Size → Flags → ℕ → Outcome
one_result o Byte f x = altered o 8 f x
one_result o Halfword f x = altered o 16 f x
one_result o Word f x = altered o 32 f x
one_result o Doubleword f x = moved x f

-- the stack pointer is R31
abbrev pub stack : Cpu → ℕ
stack c = register c 31

-- a word pushed on the stack: R31 goes down by 4, and the word lies there
unfoldable pub pushed : Cpu → ℕ → Program Cpu
pushed c v =
    ask_bytes 4 (below (stack c) 4) >>= λ _.
    put_number 4 (below (stack c) 4) v >>= λ _.
    give (with_register c 31 (below (stack c) 4))

-- the word on top of the stack is fetched, and R31 goes up by 4
unfoldable pub popped : Cpu → Program (Cpu × ℕ)
popped c = fetch_pointer (stack c) >>= λ v. give (with_register c 31 (above (stack c) 4), v)

-- INC, DEC, TEST
unfoldable pub altering : Cpu → OneOperation → Size → Operand → ℕ → Program Cpu
altering c o s a next =
    locate c (byte_count s) a >>= λ p.
    taken p.cpu s p.location (one_access o) >>= λ x.
    left p.cpu s p.location (one_access o) (one_result o s c.flags x).number >>= λ d.
    give (gone_on d (one_result o s c.flags x).flags next)

-- PUSH reads its operand, lowers R31 by 4 and stores
unfoldable pub pushing : Cpu → Operand → ℕ → Program Cpu
pushing c a next =
    locate c 4 a >>= λ p.
    read_at p.cpu Word p.location >>= λ x.
    pushed p.cpu x >>= λ d.
    give (gone_on d c.flags next)

-- POP fetches, raises R31 by 4, then finds its destination
unfoldable pub popping : Cpu → Operand → ℕ → Program Cpu
popping c a next =
    popped c >>= λ t.
    locate t.0 4 a >>= λ p.
    write_at p.cpu Word p.location t.1 >>= λ d.
    give (gone_on d c.flags next)

-- JMP asks nothing of its target
unfoldable pub jumping : Cpu → Operand → Program Cpu
jumping c a = locate c 1 a >>= λ p. give (gone_on p.cpu c.flags (location_address p.location))

-- JSR finds its target, then pushes the address of the next instruction
unfoldable pub calling : Cpu → Operand → ℕ → Program Cpu
calling c a next =
    locate c 1 a >>= λ p.
    pushed p.cpu next >>= λ d.
    give (gone_on d c.flags (location_address p.location))

-- BSR pushes the address of the next instruction; its displacement is added to its own first byte's address
unfoldable pub calling_relative : Cpu → ℤ → ℕ → Program Cpu
calling_relative c d next = pushed c next >>= λ e. give (gone_on e c.flags (displaced c.pc d))

-- RSR takes it back
unfoldable pub returning : Cpu → Program Cpu
returning c = popped c >>= λ t. give (gone_on t.0 c.flags t.1)

-- a branch adds its displacement to its own first byte's address where its condition holds
abbrev pub branched : Cpu → ℕ → ℤ → ℕ → Cpu
branched c k d next = gone_on c c.flags (cond (condition k c.flags) (displaced c.pc d) next)
