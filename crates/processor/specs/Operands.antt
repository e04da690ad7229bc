-- Where operands lie, what they hold, and putting results there.
use Rattle.std.specs.Prelude.{ℕ, ◌+◌, ◌-◌, ◌*◌, ◌%◌, ◌^◌, ℤ, pos, ◌+ℤ◌}
use Rattle.board.specs.Block.{above}
use Rattle.number.specs.declared.width.Size.{Size}
use Rattle.number.specs.Sizes.{byte_count}
use Rattle.number.specs.Words.{residue}
use Rattle.bus.specs.Program.{Program, give, ◌>>=◌}
use Rattle.bus.specs.Wide.{fetch_number, ask_bytes, put_number}
use Rattle.instruction.specs.declared.operand.Base.{Base}
use Rattle.instruction.specs.declared.operand.Base.TheVariants.{Register as On, Pc, Zero}
use Rattle.instruction.specs.declared.operand.Address.{Address}
use Rattle.instruction.specs.declared.operand.Address.TheVariants.{Indirect, Displaced, Deferred}
use Rattle.instruction.specs.declared.operand.Operand.{Operand}
use Rattle.instruction.specs.declared.operand.Operand.TheVariants.{Register, Immediate, Memory, Indexed, Double, Increment, Decrement}
use Rattle.processor.specs.declared.cpu.Cpu.{Cpu}
use Rattle.processor.specs.declared.operand.Location.{Location}
use Rattle.processor.specs.declared.operand.Location.TheVariants.{InRegister, Constant, InMemory}
use Rattle.processor.specs.declared.operand.Found.{Found}
use Rattle.processor.specs.Registers.{register, with_register, read_register, write_register}

-- what a base stands for
abbrev pub base_value : Cpu → Base → ℕ
base_value c (On n) = register c n
base_value c Pc = c.pc
base_value c Zero = 0

-- a displacement added to an address, modulo 2^32
abbrev pub displaced : ℕ → ℤ → ℕ
displaced a d = residue 32 (pos a +ℤ d)

-- the address k bytes below a
abbrev pub below : ℕ → ℕ → ℕ
below a k = (a + (2 ^ 32 - k)) % 2 ^ 32

-- a pointer: the word at address a
abbrev pub fetch_pointer : ℕ → Program ℕ
fetch_pointer a = fetch_number 4 a

-- the address that an operand names; a deferred one is fetched
unfoldable pub address_of : Cpu → Address → Program ℕ
address_of c (Indirect n) = give (register c n)
address_of c (Displaced b d) = give (displaced (base_value c b) d)
address_of c (Deferred b d) = fetch_pointer (displaced (base_value c b) d)

abbrev pub found : Cpu → Location → Found
found c l = record { cpu = c; location = l }

-- where an operand of k bytes lies, and the registers that finding it changed: an index counts times k, and [Rn+] and [-Rn] move by k;
-- of a double displacement the first number is added before the pointer is fetched, and the second after
unfoldable pub locate : Cpu → ℕ → Operand → Program Found
locate c k (Register n) = give (found c (InRegister n))
locate c k (Immediate v) = give (found c (Constant v))
locate c k (Memory a) = address_of c a >>= λ x. give (found c (InMemory x))
locate c k (Indexed a i) = address_of c a >>= λ x. give (found c (InMemory (above x (register c i * k))))
locate c k (Double b inner outer) = fetch_pointer (displaced (base_value c b) inner) >>= λ p. give (found c (InMemory (displaced p outer)))
locate c k (Increment n) = give (found (with_register c n (above (register c n) k)) (InMemory (register c n)))
locate c k (Decrement n) = give (found (with_register c n (below (register c n) k)) (InMemory (below (register c n) k)))

-- the address of a location in memory
abbrev pub location_address : Location → ℕ
location_address (InRegister n) = 0
location_address (Constant v) = 0
location_address (InMemory a) = a

-- what lies there
unfoldable pub read_at : Cpu → Size → Location → Program ℕ
read_at c s (InRegister n) = give (read_register c s n)
read_at c s (Constant v) = give v
read_at c s (InMemory a) = fetch_number (byte_count s) a

-- the processor once a number was put there: rights first, then the stores; a register's result comes last. Nothing is put into a constant
unfoldable pub write_at : Cpu → Size → Location → ℕ → Program Cpu
write_at c s (InRegister n) v = give (write_register c s n v)
write_at c s (Constant x) v = give c
write_at c s (InMemory a) v =
    ask_bytes (byte_count s) a >>= λ _.
    put_number (byte_count s) a v >>= λ _.
    give c
