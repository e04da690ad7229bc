use Rattle.std.proofs.Common.{◌*◌, ◌++◌, replicate}
use Rattle.std.specs.Fmt.{HasWritten, IsPlainFormatter}
use Rattle.printout.specs.Text.{cells_text}
use Rattle.printout.proofs.listing.CodeDisplay.fmt.Given as goal

abbrev pub invariant-loop : goal.invariant-loop
invariant-loop g l =
    IsPlainFormatter l.fn.f → HasWritten g.W.Write.write_str_gives l.fn.f (cells_text l.self.0.now ++ replicate (3 * l.counter) 32) l.f
