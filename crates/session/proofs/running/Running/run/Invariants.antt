use Rattle.std.proofs.Common.{◌≡◌, false}
use Rattle.session.specs.Calls.{moment, Comes}
use Rattle.session.proofs.Loops.{so_far, tries_at, short_at}
use Rattle.session.proofs.running.Running.run.Given as goal

abbrev pub invariant-loop-completed : goal.invariant-loop-completed
invariant-loop-completed g l =
    let found = moment g.B.Board.rights g.B.Board.bytes l.initial.self.machine l.initial.board l.initial.reads l.initial.writes in
    let now = moment g.B.Board.rights g.B.Board.bytes l.self.machine l.board l.reads l.writes in
    (short_at found ≡ false) × Comes (tries_at l.completed found) (so_far l.completed) found now
