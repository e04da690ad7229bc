use Rattle.std.proofs.Common.{◌≡◌, take, drop}
use Rattle.session.specs.Calls.{moment}
use Rattle.history.specs.History.{after, phase_of, machine_of, point, given_calls, Follows}
use Rattle.history.proofs.list.Session.carry_out.Given as goal

abbrev pub invariant-loop-i : goal.invariant-loop-i
invariant-loop-i g l =
    let found = moment g.B.Board.rights g.B.Board.bytes (machine_of l.initial.session) l.initial.board l.initial.reads l.initial.writes in
    let now = moment g.B.Board.rights g.B.Board.bytes (machine_of l.session) l.board l.reads l.writes in
    Follows (after found.rights (given_calls l.i l.calls found) (point (phase_of l.initial.session) found)) (take l.i l.replies) (phase_of l.session) found now
    × (drop l.i l.replies ≡ drop l.i l.initial.replies)
