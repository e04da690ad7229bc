use Rattle.std.proofs.Common.{◌≡◌, arith}
use Rattle.bus.proofs.Laws.{times_none, times_more, times_ends, hands_on}
use Rattle.strings.specs.Strings.{filled}
use Rattle.strings.proofs.string.Transfer.fill.Goals as goal

pub loop-i-init : goal.loop-i-init
loop-i-init g c = times_none _ tt

pub loop-i-preserved : goal.loop-i-preserved
loop-i-preserved g c = times_more _ tt _ c.loop-i.invariant c.in_ok-put.ensures

pub returns-in_err-put : goal.returns-in_err-put
unfolding filled
returns-in_err-put g c = hands_on c.from_residual.ensures.1 (times_ends _ tt _ _ (omega arith) (times_more _ tt _ c.loop-i.invariant c.in_err-put.ensures))

pub returns : goal.returns
unfolding filled
returns g c = let e : c.loop-i.i ≡ c.args.count = omega arith in rw e at c.loop-i.invariant
