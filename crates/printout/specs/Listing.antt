-- The instructions on a board, told one after another.
use Rattle.std.specs.Prelude.{◌≡◌, ℕ, [], Some, None, Ok, Err, Option, Result, IsSomeAnd}
use Rattle.board.specs.declared.Right.{Right}
use Rattle.board.specs.Block.{above, fetches}
use Rattle.bus.specs.declared.refusal.Refusal.{Refusal}
use Rattle.bus.specs.Program.{runs}
use Rattle.instruction.specs.declared.action.Action.{Action}
use Rattle.instruction.specs.declared.part.Part.{Part}
use Rattle.instruction.specs.declared.instruction.Instruction.{Instruction}
use Rattle.instruction.specs.Build.{as_decoded}
use Rattle.instruction.specs.Formats.{decode}
use Rattle.printout.specs.declared.listing.Line.{Line}

-- what the decoder makes of the bytes from an address on
abbrev pub decoded_at : (ℕ → Right) → (ℕ → ℕ) → ℕ → Result (Part Action) Refusal
decoded_at rights bytes pc = (runs (decode pc) (record { rights = rights; bytes = bytes; writes = [] }) (record { reads = []; own = [] })).0

-- the address after an instruction; none where it was refused
abbrev pub next_after : ℕ → Result Instruction Refusal → Option ℕ
next_after pc (Ok i) = Some (above pc i.length)
next_after pc (Err e) = None

-- x tells what stands at an address
pub record IsLine (rights : ℕ → Right) (bytes : ℕ → ℕ) (at : ℕ) (x : Line) : Type 0 where
  pub pc : x.pc ≡ at
  pub cells : x.cells ≡ fetches rights bytes at 22
  pub decoded : as_decoded at x.decoded ≡ decoded_at rights bytes at

-- the line at the next address is told, and then the address after it is next; or nothing is left
abbrev pub TellsLine : (ℕ → Right) → (ℕ → ℕ) → Option ℕ → Option Line → Option ℕ → Type 0
TellsLine rights bytes None r next = (r ≡ None) × (next ≡ None)
TellsLine rights bytes (Some pc) r next = IsSomeAnd r (λ x. IsLine rights bytes pc x × (next ≡ next_after pc x.decoded))
