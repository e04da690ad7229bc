-- What an answer prints.
use Rattle.std.specs.Prelude.{ℕ, List, [], ◌++◌, Some, None, Option, codes}
use Rattle.std.specs.Fmt.{decimal}
use Rattle.bus.specs.declared.refusal.Refusal.{Refusal}
use Rattle.bus.specs.Refusals.{refusal_text}
use Rattle.machine.specs.declared.answer.Answer.{Answer}

-- the refusal, if there is one
abbrev pub refused_text : Option Refusal → List ℕ
refused_text None = []
refused_text (Some e) = codes ", refused: " ++ refusal_text e

-- how many steps were completed, and the refusal
abbrev pub answer_text : Answer → List ℕ
answer_text a = decimal a.completed ++ (codes " completed" ++ refused_text a.refusal)
