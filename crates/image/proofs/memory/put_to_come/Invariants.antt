use Rattle.std.proofs.Common.{◌≡◌, length}
use Rattle.image.specs.Image.{of_ok, filled}
use Rattle.image.specs.Reading.{to_come}
use Rattle.image.proofs.memory.put_to_come.Given as goal

abbrev pub invariant-loop-piece : goal.invariant-loop-piece
invariant-loop-piece l = of_ok (filled l.base l.memory) (to_come l.reader) ≡ of_ok (filled l.base l.fn.memory) (to_come l.fn.reader)

abbrev pub decreases-loop-piece : goal.decreases-loop-piece
decreases-loop-piece l = length l.reader.rest.now
