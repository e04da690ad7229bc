-- Strings: characters of one or two bytes, from the lower end on.
use Rattle.std.specs.Prelude.{ℕ, ◌-◌, ◌*◌, min, Bool, cond, ◌==◌, nat_lt, Option, Some, None, unwrap_or, is_none}
use Rattle.board.specs.Block.{above}
use Rattle.number.specs.declared.flags.Flags.{Flags}
use Rattle.number.specs.declared.width.Size.{Size}
use Rattle.number.specs.Sizes.{byte_count}
use Rattle.bus.specs.declared.refusal.Refusal.TheVariants.{TooLong}
use Rattle.bus.specs.Program.{Program, give, refuse, ◌>>=◌, times}
use Rattle.bus.specs.Wide.{fetch_number, ask_bytes, put_number}
use Rattle.instruction.specs.declared.operation.StringOperation.{StringOperation}
use Rattle.instruction.specs.declared.operation.StringOperation.TheVariants.{Movc, Movcf, Movcs}
use Rattle.instruction.specs.declared.action.Length.{Length}
use Rattle.instruction.specs.declared.action.Length.TheVariants.{Literal, Register}
use Rattle.instruction.specs.declared.action.StringOperand.{StringOperand}
use Rattle.processor.specs.declared.cpu.Cpu.{Cpu}
use Rattle.processor.specs.Registers.{register, with_register, read_register, gone_on}
use Rattle.processor.specs.Operands.{locate, location_address}

-- how many characters: a register's full value
abbrev pub length_value : Cpu → Length → ℕ
length_value c (Literal n) = n
length_value c (Register n) = register c n

-- the length of a string operand, 128 characters at the most
unfoldable pub counted : Cpu → StringOperand → Program ℕ
counted c x = cond (nat_lt 128 (length_value c x.length)) (refuse (TooLong (above c.pc x.place))) (give (length_value c x.length))

-- the address of character i of a string of characters of k bytes
abbrev pub character : ℕ → ℕ → ℕ → ℕ
character k a i = above a (i * k)

-- a character put at its place: the right first
unfoldable pub put_character : ℕ → ℕ → ℕ → ℕ → Program (Unit {0})
put_character k to i v =
    ask_bytes k (character k to i) >>= λ _.
    put_number k (character k to i) v

-- one character copied: it is fetched, then the right is asked for, then it is set
unfoldable pub copy_character : ℕ → ℕ → ℕ → ℕ → Program (Unit {0})
copy_character k from to i =
    fetch_number k (character k from i) >>= λ v.
    put_character k to i v

-- n characters copied
unfoldable pub copied : ℕ → ℕ → ℕ → ℕ → Program (Unit {0})
copied k from to n = times n (λ i _. copy_character k from to i) tt

-- n characters filled with v
unfoldable pub filled : ℕ → ℕ → ℕ → ℕ → Program (Unit {0})
filled k to v n = times n (λ i _. put_character k to i v) tt

-- a copy that ends before the first character equal to `stop`, and says where that was met: one character more, unless it was
unfoldable pub stop_step : ℕ → ℕ → ℕ → ℕ → ℕ → Option ℕ → Program (Option ℕ)
stop_step k from to stop i (Some j) = give (Some j)
stop_step k from to stop i None =
    fetch_number k (character k from i) >>= λ v.
    cond (v == stop) (give (Some i))
    (put_character k to i v >>= λ _. give None)

-- n characters at the most
unfoldable pub copied_until : ℕ → ℕ → ℕ → ℕ → ℕ → Program (Option ℕ)
copied_until k from to stop n = times n (stop_step k from to stop) None

-- the end of a string instruction: R28 names the character after the i-th of the source, R27 the one after the j-th of the destination
abbrev pub string_done : Cpu → ℕ → ℕ → ℕ → ℕ → ℕ → Flags → ℕ → Cpu
string_done c k from to i j f next = gone_on (with_register (with_register c 28 (character k from i)) 27 (character k to j)) f next

-- the flags with CY so
abbrev pub with_carry : Flags → Bool → Flags
with_carry f cy = record f { cy = cy }

-- MOVC: n characters copied
unfoldable pub moved : Cpu → Size → ℕ → ℕ → ℕ → ℕ → Program Cpu
moved c s from to n next =
    copied (byte_count s) from to n >>= λ _.
    give (string_done c (byte_count s) from to n n c.flags next)

-- MOVCF: i characters copied, and the low bits of R26 put for each of the others, up to n
unfoldable pub padded : Cpu → Size → ℕ → ℕ → ℕ → ℕ → ℕ → Program Cpu
padded c s from to i n next =
    copied (byte_count s) from to i >>= λ _.
    filled (byte_count s) (character (byte_count s) to i) (read_register c s 26) (n - i) >>= λ _.
    give (string_done c (byte_count s) from to i n c.flags next)

-- MOVCS: n characters at the most, up to the first that equals the low bits of R26; CY says that none did
unfoldable pub halted : Cpu → Size → ℕ → ℕ → ℕ → ℕ → Program Cpu
halted c s from to n next =
    copied_until (byte_count s) from to (read_register c s 26) n >>= λ met.
    give (string_done c (byte_count s) from to (unwrap_or met n) (unwrap_or met n) (with_carry c.flags (is_none met)) next)

-- the work on m characters at `from` and n at `to`: as many are copied as the shorter string has
unfoldable pub worked : Cpu → StringOperation → Size → ℕ → ℕ → ℕ → ℕ → ℕ → Program Cpu
worked c Movc s from to m n next = moved c s from to (min m n) next
worked c Movcf s from to m n next = padded c s from to (min m n) n next
worked c Movcs s from to m n next = halted c s from to (min m n) next

-- both lengths first, then both addresses, then the work
unfoldable pub string_instruction : Cpu → StringOperation → Size → StringOperand → StringOperand → ℕ → Program Cpu
string_instruction c o s x y next =
    counted c x >>= λ m.
    counted c y >>= λ n.
    locate c (byte_count s) x.operand >>= λ p.
    locate p.cpu (byte_count s) y.operand >>= λ q.
    worked q.cpu o s (location_address p.location) (location_address q.location) m n next
