use Rattle.std.proofs.Common.{◌≡◌, length, None, fold}
use Rattle.image.specs.Image.{of_ok, covered}
use Rattle.image.specs.Reading.{to_come}
use Rattle.image.proofs.extent.extent_to_come.Given as goal

abbrev pub invariant-loop-piece : goal.invariant-loop-piece
invariant-loop-piece l = of_ok (fold covered l.extent) (to_come l.reader) ≡ of_ok (fold covered None) (to_come l.fn.reader)

abbrev pub decreases-loop-piece : goal.decreases-loop-piece
decreases-loop-piece l = length l.reader.rest.now
