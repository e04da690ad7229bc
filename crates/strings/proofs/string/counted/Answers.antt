use Rattle.std.proofs.Common.{ltb, sym, refl, ap, ◌∙◌}
use Rattle.std.proofs.lemmas.Bool.{lt-ltb, le-ltb}
use Rattle.bus.proofs.Laws.{gives, refuses, if_so, if_not}
use Rattle.strings.specs.Strings.{counted}
use Rattle.strings.proofs.string.counted.Goals as goal

pub returns-then-n-gt128 : goal.returns-then-n-gt128
unfolding counted
returns-then-n-gt128 g c = if_so _ (ap (ltb 128) (sym c.length_value-n.ensures) ∙ lt-ltb 128 _ c.if-n-gt128.true) (refuses refl)

pub returns : goal.returns
unfolding counted
returns g c = if_not _ (ap (ltb 128) (sym c.length_value-n.ensures) ∙ le-ltb 128 _ c.if-n-gt128.false) (gives (sym c.length_value-n.ensures))
