use Rattle.std.proofs.Common.{arith}
use Rattle.image.proofs.Spelled.{length_spelled, spelled_part}
use Rattle.image.proofs.digits.part.Goals as goal

pub overflow_mul-result : goal.overflow_mul-result
overflow_mul-result c = omega (arith, length_spelled c.args.digits.now)

pub overflow_add-result : goal.overflow_add-result
overflow_add-result c = omega (arith, length_spelled c.args.digits.now)

pub overflow_mul-result-2 : goal.overflow_mul-result-2
overflow_mul-result-2 c = omega (arith, length_spelled c.args.digits.now)

pub slice_bounds-result-end : goal.slice_bounds-result-end
slice_bounds-result-end c = omega (arith, length_spelled c.args.digits.now)

pub returns : goal.returns
returns c = spelled_part c.args.digits.now c.args.place c.args.count
