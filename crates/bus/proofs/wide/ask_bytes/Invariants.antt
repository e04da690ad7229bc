use Rattle.std.proofs.Common.{Ok}
use Rattle.board.specs.Block.{above}
use Rattle.bus.specs.Program.{ask_byte, times}
use Rattle.bus.specs.Seen.{Runs}
use Rattle.bus.proofs.wide.ask_bytes.Given as goal

abbrev pub invariant-loop-i : goal.invariant-loop-i
invariant-loop-i g l = Runs (times l.i (λ i _. ask_byte (above l.address i)) tt) (g.B.Bus.seen l.initial.bus) (Ok tt) (g.B.Bus.seen l.bus)
