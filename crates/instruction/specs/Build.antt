-- An instruction as what the decoder's definition gives.
use Rattle.std.specs.Prelude.{ℕ, Ok, Err, Result}
use Rattle.board.specs.Block.{above}
use Rattle.bus.specs.declared.refusal.Refusal.{Refusal}
use Rattle.instruction.specs.declared.action.Action.{Action}
use Rattle.instruction.specs.declared.instruction.Instruction.{Instruction}
use Rattle.instruction.specs.declared.part.Part.{Part}
use Rattle.instruction.specs.Decode.{part}

-- the action, and the address after an instruction at PC
abbrev pub decoded_of : ℕ → Instruction → Part Action
decoded_of pc i = part i.action (above pc i.length)

abbrev pub as_decoded : ℕ → Result Instruction Refusal → Result (Part Action) Refusal
as_decoded pc (Ok i) = Ok (decoded_of pc i)
as_decoded pc (Err e) = Err e
