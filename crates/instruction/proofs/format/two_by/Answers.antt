use Rattle.std.proofs.Common.{refl}
use Rattle.std.proofs.lemmas.Bool.{lt-ltb, le-ltb, eq-eqb, ne_eqb}
use Rattle.bus.proofs.Laws.{refuses, if_so, if_not}
use Rattle.instruction.specs.Formats.{two_by}
use Rattle.instruction.proofs.format.two_by.Goals as goal

pub returns-then-byte-lt128 : goal.returns-then-byte-lt128
unfolding two_by
returns-then-byte-lt128 g c = if_so _ (lt-ltb _ _ c.if-byte-lt128.true) c.register_and_mode.ensures

pub returns-then-n-eq0 : goal.returns-then-n-eq0
unfolding two_by
returns-then-n-eq0 g c = if_not _ (le-ltb _ _ c.if-byte-lt128.false) (if_so _ (eq-eqb _ _ c.if-n-eq0.true) c.two_modes.ensures)

pub returns-else-n-eq0 : goal.returns-else-n-eq0
unfolding two_by
returns-else-n-eq0 g c = if_not _ (le-ltb _ _ c.if-byte-lt128.false) (if_not _ (ne_eqb _ _ c.if-n-eq0.false) (refuses refl))
