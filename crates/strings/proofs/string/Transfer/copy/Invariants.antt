use Rattle.std.proofs.Common.{Ok}
use Rattle.number.specs.Sizes.{byte_count}
use Rattle.bus.specs.Program.{times}
use Rattle.bus.specs.Seen.{Runs}
use Rattle.strings.specs.Strings.{copy_character}
use Rattle.strings.proofs.string.Transfer.copy.Given as goal

abbrev pub invariant-loop-i : goal.invariant-loop-i
invariant-loop-i g l = Runs (times l.i (λ i _. copy_character (byte_count l.self.size) l.self.from l.self.to i) tt) (g.B.Bus.seen l.initial.bus) (Ok tt) (g.B.Bus.seen l.bus)
