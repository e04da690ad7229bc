use Rattle.std.proofs.Common.{sym, arith}
use Rattle.session.proofs.Loops.{turns_none, turn, turn_out, turned_all, too_short}
use Rattle.session.proofs.running.Running.run.Goals as goal

pub returns-then-is_short : goal.returns-then-is_short
returns-then-is_short g c = too_short _ _ (sym c.if-is_short.ensures)

pub loop-completed-init : goal.loop-completed-init
loop-completed-init g c = (sym c.if-is_short.ensures, turns_none _)

pub returns-in-Err : goal.returns-in-Err
returns-in-Err g c =
    let h = c.loop-completed.invariant in
    turn_out _ _ _ _ _ _ _ h.0 c.loop-completed-test.true h.1 c.attempt.ensures c.in-Err.is

pub loop-completed-preserved : goal.loop-completed-preserved
loop-completed-preserved g c =
    let h = c.loop-completed.invariant in
    (h.0, turn _ _ _ _ _ h.1 c.attempt.ensures c.in_default.is)

pub returns : goal.returns
returns g c =
    let h = c.loop-completed.invariant in
    turned_all _ _ _ _ h.0 (omega arith) h.1
