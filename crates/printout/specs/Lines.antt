-- Lines of a listing, as text.
use Rattle.std.specs.Prelude.{ℕ, ◌*◌, ◌-◌, List, ◌++◌, length, take, replicate, Ok, Err, Option, Result, codes}
use Rattle.bus.specs.declared.refusal.Refusal.{Refusal}
use Rattle.bus.specs.Refusals.{refusal_text}
use Rattle.instruction.specs.declared.instruction.Instruction.{Instruction}
use Rattle.printout.specs.declared.listing.Line.{Line}
use Rattle.printout.specs.Text.{digits_of_width, cells_text}
use Rattle.printout.specs.Instructions.{action_text}

-- bytes of code, with three spaces for each that is missing of eight (32 is a space)
abbrev pub code_text : List (Option ℕ) → List ℕ
code_text cells = cells_text cells ++ replicate (3 * (8 - length cells)) 32

-- what stands behind the address: the code and the instruction, or the refusal
abbrev pub decoded_text : ℕ → List (Option ℕ) → Result Instruction Refusal → List ℕ
decoded_text pc cells (Ok i) = codes " " ++ code_text (take i.length cells) ++ codes "  " ++ action_text pc i.action
decoded_text pc cells (Err e) = codes "  refused: " ++ refusal_text e

abbrev pub line_text : Line → List ℕ
line_text l = codes "  " ++ digits_of_width 8 l.pc ++ decoded_text l.pc l.cells l.decoded
