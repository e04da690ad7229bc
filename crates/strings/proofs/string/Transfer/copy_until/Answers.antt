use Rattle.std.proofs.Common.{◌≡◌, None, Some, refl, arith}
use Rattle.std.proofs.lemmas.Bool.{eq-eqb, ne_eqb}
use Rattle.bus.proofs.Laws.{goes_on, ends_at, gives, hands_on, if_so, if_not, times_none, times_more, times_ends}
use Rattle.strings.specs.Strings.{stop_step, copied_until}
use Rattle.strings.proofs.Loops.{times_rest}
use Rattle.strings.proofs.string.Transfer.copy_until.Goals as goal

pub loop-i-init : goal.loop-i-init
loop-i-init g c = times_none _ _

pub loop-i-preserved : goal.loop-i-preserved
unfolding stop_step
loop-i-preserved g c =
    times_more _ _ _ c.loop-i.invariant
    (goes_on _ c.in_ok-value.ensures (if_not _ (ne_eqb _ _ c.if-value-stop.false) (goes_on _ c.in_ok-put.ensures (gives refl))))

pub returns-in_err-value : goal.returns-in_err-value
unfolding copied_until stop_step
returns-in_err-value g c =
    hands_on c.from_residual.ensures.1
    (times_ends _ _ _ _ (omega arith) (times_more _ _ _ c.loop-i.invariant (ends_at _ c.in_err-value.ensures)))

pub returns-then-value-stop : goal.returns-then-value-stop
unfolding copied_until stop_step
returns-then-value-stop g c =
    times_rest _ None (Some c.loop-i.i) _ _ (λ i. refl) (omega arith)
    (times_more _ _ _ c.loop-i.invariant (goes_on _ c.in_ok-value.ensures (if_so _ (eq-eqb _ _ c.if-value-stop.true) (gives refl))))

pub returns-in_err-put : goal.returns-in_err-put
unfolding copied_until stop_step
returns-in_err-put g c =
    hands_on c.from_residual-in_err-put.ensures.1
    (times_ends _ _ _ _ (omega arith)
    (times_more _ _ _ c.loop-i.invariant (goes_on _ c.in_ok-value.ensures (if_not _ (ne_eqb _ _ c.if-value-stop.false) (ends_at _ c.in_err-put.ensures)))))

pub returns : goal.returns
unfolding copied_until
returns g c = let e : c.loop-i.i ≡ c.args.count = omega arith in rw e at c.loop-i.invariant
