use Rattle.std.proofs.Common.{◌≡◌, arith}
use Rattle.number.specs.Sizes.{byte_count}
use Rattle.bus.specs.Wide.{ask_bytes}
use Rattle.bus.proofs.Laws.{times_none, times_more, times_ends, hands_on}
use Rattle.bus.proofs.wide.ask_bytes.Goals as goal

pub loop-i-init : goal.loop-i-init
loop-i-init g c = times_none _ tt

pub loop-i-preserved : goal.loop-i-preserved
loop-i-preserved g c = times_more _ tt _ c.loop-i.invariant c.in_ok-ask.ensures

pub returns-in_err-ask : goal.returns-in_err-ask
unfolding ask_bytes
returns-in_err-ask g c = hands_on c.from_residual.ensures.1 (times_ends _ tt _ _ (omega arith) (times_more _ tt _ c.loop-i.invariant c.in_err-ask.ensures))

pub returns : goal.returns
unfolding ask_bytes
returns g c = let e : c.loop-i.i ≡ byte_count c.args.size = omega arith in rw e at c.loop-i.invariant
