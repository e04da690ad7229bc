-- The decoder: which instruction the bytes from an address on are, fetched one by one in rising order. A refusal falls at the first byte that shows it.
use Rattle.std.specs.Prelude.{ℕ, ◌%◌, ◌^◌, Bool, ℤ, Some, None, Ok, Err, Option, Result}
use Rattle.std.specs.Option.{ok_or}
use Rattle.board.specs.Block.{above}
use Rattle.number.specs.declared.width.Size.{Size}
use Rattle.number.specs.declared.width.Size.TheVariants.{Byte, Halfword, Word, Doubleword}
use Rattle.number.specs.Sizes.{byte_count}
use Rattle.number.specs.Words.{signed}
use Rattle.bus.specs.declared.refusal.Refusal.TheVariants.{ReservedEncoding}
use Rattle.bus.specs.Program.{Program, give, ◌>>=◌, fetch_byte, answer}
use Rattle.bus.specs.declared.refusal.Refusal.{Refusal}
use Rattle.bus.specs.Wide.{fetch_number}
use Rattle.instruction.specs.declared.operation.Access.{Access}
use Rattle.instruction.specs.declared.operand.Base.{Base}
use Rattle.instruction.specs.declared.operand.Address.TheVariants.{Indirect as indirect, Displaced as displaced, Deferred as deferred}
use Rattle.instruction.specs.declared.operand.Address.{Address}
use Rattle.instruction.specs.declared.operand.Operand.{Operand}
use Rattle.instruction.specs.declared.operand.Operand.TheVariants.{Register as register, Immediate as immediate, Memory as memory, Indexed as indexed, Double as double, Increment as increment, Decrement as decrement}
use Rattle.instruction.specs.declared.mode.Shape.{Shape}
use Rattle.instruction.specs.declared.mode.Shape.TheVariants.{Indirect, Displaced, Deferred}
use Rattle.instruction.specs.declared.mode.Mode.{Mode}
use Rattle.instruction.specs.declared.mode.Mode.TheVariants.{At, Quick, Immediate, Register, Increment, Decrement, Double, Index}
use Rattle.instruction.specs.declared.mode.Misfit.{Misfit}
use Rattle.instruction.specs.declared.part.Part.{Part}
use Rattle.instruction.specs.Modes.{mode_of, plain_mode, immediate_verdict, register_verdict, refusal_at}

-- the low bits of a number of that size, read with their sign
abbrev pub sign_extended : Size → ℕ → ℤ
sign_extended Byte n = signed 8 (n % 2 ^ 8)
sign_extended Halfword n = signed 16 (n % 2 ^ 16)
sign_extended Word n = signed 32 (n % 2 ^ 32)
sign_extended Doubleword n = signed 32 (n % 2 ^ 32)

-- a part of the code, and the address after it
abbrev pub part : {A : Type 0} → A → ℕ → Part A
part x next = record { value = x; next = next }

-- the displacement at address p
unfoldable pub displacement : Size → ℕ → Program (Part ℤ)
displacement s p = fetch_number (byte_count s) p >>= λ n. give (part (sign_extended s n) (above p (byte_count s)))

-- an address of that shape whose displacement, if it has one, lies at p
unfoldable pub shape_at : ℕ → Shape → Program (Part Address)
shape_at p (Indirect n) = give (part (indirect n) p)
shape_at p (Displaced b s) = displacement s p >>= λ d. give (part (displaced b d.value) d.next)
shape_at p (Deferred b s) = displacement s p >>= λ d. give (part (deferred b d.value) d.next)

-- what the verdict on the operand at p leads to
abbrev pub judged : ℕ → Result (Unit {0}) Misfit → Result (Unit {0}) Refusal
judged p (Ok u) = Ok u
judged p (Err m) = Err (refusal_at p m)

unfoldable pub permit : ℕ → Result (Unit {0}) Misfit → Program (Unit {0})
permit p v = answer (judged p v)

-- the shape that may be indexed, if the mode is one
abbrev pub shape_of : Option Mode → Option Shape
shape_of None = None
shape_of (Some (At s)) = Some s
shape_of (Some (Quick v)) = None
shape_of (Some Immediate) = None
shape_of (Some (Register n)) = None
shape_of (Some (Increment n)) = None
shape_of (Some (Decrement n)) = None
shape_of (Some (Double b s)) = None
shape_of (Some (Index n)) = None

-- an indexed operand at p with the index Rx: its second byte chooses as for m = 0, and only an address may be indexed
unfoldable pub indexed_at : ℕ → ℕ → Program (Part Operand)
indexed_at p x =
    fetch_byte (above p 1) >>= λ b.
    answer (ok_or (shape_of (plain_mode b)) (ReservedEncoding p)) >>= λ s.
    shape_at (above p 2) s >>= λ l.
    give (part (indexed l.value x) l.next)

-- a double displacement at p: the inner number comes first
unfoldable pub double_at : ℕ → Base → Size → Program (Part Operand)
double_at p b s =
    displacement s (above p 1) >>= λ inner.
    displacement s inner.next >>= λ outer.
    give (part (double b inner.value outer.value) outer.next)

-- an immediate of the operand's size after the mode byte at p
unfoldable pub immediate_at : ℕ → Size → Program (Part Operand)
immediate_at p s = fetch_number (byte_count s) (above p 1) >>= λ n. give (part (immediate (n % 2 ^ 32)) (above (above p 1) (byte_count s)))

-- an operand at p of that mode
unfoldable pub by_mode : ℕ → Size → Access → Mode → Program (Part Operand)
by_mode p size access (At s) = shape_at (above p 1) s >>= λ l. give (part (memory l.value) l.next)
by_mode p size access (Quick v) = permit p (immediate_verdict access size) >>= λ _. give (part (immediate v) (above p 1))
by_mode p size access Immediate = permit p (immediate_verdict access size) >>= λ _. immediate_at p size
by_mode p size access (Register n) = permit p (register_verdict access size n) >>= λ _. give (part (register n) (above p 1))
by_mode p size access (Increment n) = give (part (increment n) (above p 1))
by_mode p size access (Decrement n) = give (part (decrement n) (above p 1))
by_mode p size access (Double b s) = double_at p b s
by_mode p size access (Index x) = indexed_at p x

-- the operand whose first mode byte lies at p
unfoldable pub operand_at : ℕ → Bool → Size → Access → Program (Part Operand)
operand_at p m size access =
    fetch_byte p >>= λ b.
    answer (ok_or (mode_of m b) (ReservedEncoding p)) >>= λ mode.
    by_mode p size access mode
