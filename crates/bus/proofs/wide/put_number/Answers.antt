use Rattle.std.proofs.Common.{◌≡◌, arith}
use Rattle.number.specs.Sizes.{byte_count}
use Rattle.bus.specs.Wide.{put_number}
use Rattle.bus.proofs.Laws.{times_none, times_more}
use Rattle.bus.proofs.wide.put_number.Goals as goal

pub loop-i-init : goal.loop-i-init
loop-i-init g c = times_none _ tt

pub loop-i-preserved : goal.loop-i-preserved
loop-i-preserved g c = times_more _ tt _ c.loop-i.invariant (rw c.byte.ensures at c.put.ensures)

pub returns : goal.returns
unfolding put_number
returns g c = let e : c.loop-i.i ≡ byte_count c.args.size = omega arith in rw e at c.loop-i.invariant
