-- One line of a text and then those after it.
use Rattle.std.proofs.Common.{◌≡◌, ℕ, ◌+◌, List, [], ◌∷◌, Result, Ok, Err, refl, ap, ◌∙◌}
use Rattle.std.specs.Str.Lines.{strip_carriage_return}
use Rattle.image.specs.declared.fault.Fault.{Fault}
use Rattle.image.specs.declared.notation.Notation.{Notation}
use Rattle.image.specs.Records.{Said, said}
use Rattle.image.specs.declared.record.Record.{Record}
use Rattle.image.specs.Texts.{Cells, with_front, line_of, by_line, told, ended}

abbrev pub said_ok : Record → Result Said Fault
said_ok found = Ok (said found)

pub with_nothing : (x : Cells) → with_front [] x ≡ x
with_nothing (Ok x) = refl
with_nothing (Err x) = refl

-- what lines say, by what the first one says
pub told_next : (notation : Notation) (number base : ℕ) (all : List (List ℕ)) (line : List ℕ) (rest : List (List ℕ)) (what : Result Said Fault) → all ≡ line ∷ rest → line_of notation (strip_carriage_return line) ≡ what → told notation number base all ≡ by_line number base what (λ next. told notation (number + 1) next rest) (ended (number + 1) rest)
told_next notation number base all line rest what e f =
    ap (told notation number base) e ∙ ap (λ w. by_line number base w (λ next. told notation (number + 1) next rest) (ended (number + 1) rest)) f
