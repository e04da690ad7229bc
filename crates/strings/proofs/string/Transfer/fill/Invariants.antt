use Rattle.std.proofs.Common.{Ok}
use Rattle.number.specs.Sizes.{byte_count}
use Rattle.bus.specs.Program.{times}
use Rattle.bus.specs.Seen.{Runs}
use Rattle.strings.specs.Strings.{put_character}
use Rattle.strings.proofs.string.Transfer.fill.Given as goal

abbrev pub invariant-loop-i : goal.invariant-loop-i
invariant-loop-i g l = Runs (times l.i (λ i _. put_character (byte_count l.self.size) l.self.to i l.value) tt) (g.B.Bus.seen l.initial.bus) (Ok tt) (g.B.Bus.seen l.bus)
