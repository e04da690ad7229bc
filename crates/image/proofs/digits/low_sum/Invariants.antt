use Rattle.std.proofs.Common.{◌≡◌, ◌+◌, ◌%◌, length, sum}
use Rattle.image.specs.Digits.{spelled}
use Rattle.image.proofs.digits.low_sum.Given as goal

abbrev pub invariant-loop-rest : goal.invariant-loop-rest
invariant-loop-rest l = (l.sum + sum (spelled l.rest)) % 256 ≡ sum (spelled l.digits) % 256

abbrev pub decreases-loop-rest : goal.decreases-loop-rest
decreases-loop-rest l = length l.rest
