-- The registers of the processor.
use Rattle.std.specs.Prelude.{ℕ, ◌+◌, ◌-◌, ◌*◌, ◌/◌, ◌%◌, ◌^◌, slice_index, slice_set}
use Rattle.number.specs.declared.flags.Flags.{Flags}
use Rattle.number.specs.declared.width.Size.{Size}
use Rattle.number.specs.declared.width.Size.TheVariants.{Byte, Halfword, Word, Doubleword}
use Rattle.processor.specs.declared.cpu.Cpu.{Cpu}

-- register n
abbrev pub register : Cpu → ℕ → ℕ
register c n = slice_index c.registers n

-- the processor once register n holds v
abbrev pub with_register : Cpu → ℕ → ℕ → Cpu
with_register c n v = record { registers = slice_set c.registers n v; pc = c.pc; flags = c.flags }

-- what register n holds at a size: its low bits; a doubleword has its high half in the register after it
abbrev pub read_register : Cpu → Size → ℕ → ℕ
read_register c Byte n = register c n % 2 ^ 8
read_register c Halfword n = register c n % 2 ^ 16
read_register c Word n = register c n
read_register c Doubleword n = register c n + register c (n + 1) * 2 ^ 32

-- the number v put into register n: a byte or a halfword leaves the upper bits
abbrev pub write_register : Cpu → Size → ℕ → ℕ → Cpu
write_register c Byte n v = with_register c n (register c n - register c n % 2 ^ 8 + v % 2 ^ 8)
write_register c Halfword n v = with_register c n (register c n - register c n % 2 ^ 16 + v % 2 ^ 16)
write_register c Word n v = with_register c n (v % 2 ^ 32)
write_register c Doubleword n v = with_register (with_register c n (v % 2 ^ 32)) (n + 1) (v / 2 ^ 32)

-- the processor with those flags, gone on to the address next
abbrev pub gone_on : Cpu → Flags → ℕ → Cpu
gone_on c f next = record { registers = c.registers; pc = next; flags = f }
