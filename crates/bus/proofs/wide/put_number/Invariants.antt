use Rattle.std.proofs.Common.{Ok}
use Rattle.board.specs.Block.{above}
use Rattle.number.specs.Words.{byte_of}
use Rattle.bus.specs.Program.{put_byte, times}
use Rattle.bus.specs.Seen.{Runs}
use Rattle.bus.proofs.wide.put_number.Given as goal

abbrev pub invariant-loop-i : goal.invariant-loop-i
invariant-loop-i g l = Runs (times l.i (λ i _. put_byte (above l.address i) (byte_of l.number i)) tt) (g.B.Bus.seen l.initial.bus) (Ok tt) (g.B.Bus.seen l.bus)
