use Rattle.std.proofs.Common.{Ok, None}
use Rattle.number.specs.Sizes.{byte_count}
use Rattle.bus.specs.Program.{times}
use Rattle.bus.specs.Seen.{Runs}
use Rattle.strings.specs.Strings.{stop_step}
use Rattle.strings.proofs.string.Transfer.copy_until.Given as goal

-- the characters so far were copied, and none was the stop character
abbrev pub invariant-loop-i : goal.invariant-loop-i
invariant-loop-i g l = Runs (times l.i (stop_step (byte_count l.self.size) l.self.from l.self.to l.stop) None) (g.B.Bus.seen l.initial.bus) (Ok None) (g.B.Bus.seen l.bus)
