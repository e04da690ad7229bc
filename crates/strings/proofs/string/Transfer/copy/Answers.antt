use Rattle.std.proofs.Common.{◌≡◌, arith}
use Rattle.bus.proofs.Laws.{times_none, times_more, times_ends, hands_on}
use Rattle.strings.specs.Strings.{copied}
use Rattle.strings.proofs.string.Transfer.copy.Goals as goal

pub loop-i-init : goal.loop-i-init
loop-i-init g c = times_none _ tt

pub loop-i-preserved : goal.loop-i-preserved
loop-i-preserved g c = times_more _ tt _ c.loop-i.invariant c.in_ok-copy_one.ensures

pub returns-in_err-copy_one : goal.returns-in_err-copy_one
unfolding copied
returns-in_err-copy_one g c = hands_on c.from_residual.ensures.1 (times_ends _ tt _ _ (omega arith) (times_more _ tt _ c.loop-i.invariant c.in_err-copy_one.ensures))

pub returns : goal.returns
unfolding copied
returns g c = let e : c.loop-i.i ≡ c.args.count = omega arith in rw e at c.loop-i.invariant
