use Rattle.std.proofs.Common.{◌≡◌, ◌+◌, cond, Ok, ap, sym, ◌∙◌}
use Rattle.std.specs.Str.Lines.{strip_carriage_return}
use Rattle.image.specs.Lines.{lines}
use Rattle.image.specs.Records.{Base, End}
use Rattle.image.specs.Texts.{told, ended, line_of}
use Rattle.image.proofs.Steps.{with_nothing, said_ok, told_next}
use Rattle.image.proofs.reader.Reader.next.Goals as goal

pub returns-in-Ok-Base : goal.returns-in-Ok-Base
returns-in-Ok-Base c =
    let s = c.args.self in
    let rest = lines c.first_line.result.1.now in
    let open_now = c.if-self.false in
    let what : line_of s.notation (strip_carriage_return c.first_line.result.0.now) ≡ Ok (Base c.in-Ok-Base.base) = ap (line_of s.notation) (sym c.content-line.ensures) ∙ c.in-Ok-Base.ensures ∙ ap said_ok c.in-Ok-Base.field-0-is in (
      ap (λ t. cond t (ended s.line (lines s.rest.now)) (told s.notation s.line s.base (lines s.rest.now))) open_now
          ∙ told_next s.notation s.line s.base _ c.first_line.result.0.now rest _ c.first_line.ensures.lines what
          ∙ sym (ap (λ t. cond t (ended (s.line + 1) rest) (told s.notation (s.line + 1) c.in-Ok-Base.base rest)) open_now)
          ∙ sym (with_nothing _),
      c.first_line.ensures.shorter,
    )

pub returns-in-Ok-End : goal.returns-in-Ok-End
returns-in-Ok-End c =
    let s = c.args.self in
    let rest = lines c.first_line.result.1.now in
    let open_now = c.if-self.false in
    let what : line_of s.notation (strip_carriage_return c.first_line.result.0.now) ≡ Ok End = ap (line_of s.notation) (sym c.content-line.ensures) ∙ c.in-Ok-End.ensures ∙ ap said_ok c.in-Ok-End.field-0-is in (
      ap (λ t. cond t (ended s.line (lines s.rest.now)) (told s.notation s.line s.base (lines s.rest.now))) open_now
          ∙ told_next s.notation s.line s.base _ c.first_line.result.0.now rest _ c.first_line.ensures.lines what
          ∙ sym (with_nothing _),
      c.first_line.ensures.shorter,
    )
