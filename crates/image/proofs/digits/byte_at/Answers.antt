use Rattle.std.proofs.Common.{get_or, sym, ap, ◌∙◌}
use Rattle.image.specs.Digits.{spelled}
use Rattle.image.proofs.Spelled.{spelled_at, spelled_past}
use Rattle.image.proofs.digits.byte_at.Goals as goal

pub returns-then-low-digits : goal.returns-then-low-digits
returns-then-low-digits c =
    let at = c.from-high.result in
    c.byte_of.ensures ∙ sym (spelled_at c.args.digits.now at c.if-low-digits.true) ∙ ap (λ i. get_or (spelled c.args.digits.now) i 0) c.from-high.ensures

pub returns-else-low-digits : goal.returns-else-low-digits
returns-else-low-digits c =
    sym (spelled_past c.args.digits.now c.from-high.result c.if-low-digits.false) ∙ ap (λ i. get_or (spelled c.args.digits.now) i 0) c.from-high.ensures
