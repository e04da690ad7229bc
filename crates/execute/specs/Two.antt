-- Instructions of two operands.
use Rattle.std.specs.Prelude.{ℕ}
use Rattle.number.specs.declared.width.Size.{Size}
use Rattle.number.specs.Sizes.{byte_count}
use Rattle.bus.specs.Program.{Program, give, ◌>>=◌}
use Rattle.instruction.specs.declared.operation.Access.{Access}
use Rattle.instruction.specs.declared.operation.Access.TheVariants.{Read, Write, Modify, Address}
use Rattle.instruction.specs.declared.operation.TwoOperation.{TwoOperation}
use Rattle.instruction.specs.declared.operand.Operand.{Operand}
use Rattle.instruction.specs.Operations.{first_access, second_access}
use Rattle.processor.specs.declared.cpu.Cpu.{Cpu}
use Rattle.processor.specs.declared.operand.Location.{Location}
use Rattle.processor.specs.Registers.{gone_on}
use Rattle.processor.specs.Operands.{locate, location_address, read_at, write_at}
use Rattle.processor.specs.Operations.{result}

-- what an instruction takes of an operand: the number that lies there where it is read, and the address where only that is formed;
-- an operand that is only written is not fetched
unfoldable pub taken : Cpu → Size → Location → Access → Program ℕ
taken c s l Read = read_at c s l
taken c s l Modify = read_at c s l
taken c s l Write = give 0
taken c s l Address = give (location_address l)

-- a result put where the access writes
unfoldable pub left : Cpu → Size → Location → Access → ℕ → Program Cpu
left c s l Read v = give c
left c s l Modify v = write_at c s l v
left c s l Write v = write_at c s l v
left c s l Address v = give c

-- the first operand's location, changes and value, then the second's, then the result
unfoldable pub two_operands : Cpu → TwoOperation → Size → Size → Operand → Operand → ℕ → Program Cpu
two_operands c o s t a b next =
    locate c (byte_count s) a >>= λ p.
    taken p.cpu s p.location (first_access o) >>= λ x.
    locate p.cpu (byte_count t) b >>= λ q.
    taken q.cpu t q.location (second_access o) >>= λ y.
    left q.cpu t q.location (second_access o) (result o s t c.flags x y).number >>= λ d.
    give (gone_on d (result o s t c.flags x y).flags next)
