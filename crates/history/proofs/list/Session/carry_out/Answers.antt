use Rattle.std.proofs.Common.{◌≡◌, ◌<◌, min, length, take, drop, refl, subst, arith}
use Rattle.std.proofs.lemmas.List.{length-take-le}
use Rattle.session.specs.Calls.{moment}
use Rattle.history.specs.History.{after, phase_of, machine_of, point, given_calls, Follows}
use Rattle.history.proofs.Lists.{list_none, list_turn, rest_turn, recounted}
use Rattle.history.proofs.list.Session.carry_out.Goals as goal

pub loop-i-init : goal.loop-i-init
loop-i-init g c = (list_none _ _, refl)

pub loop-i-preserved : goal.loop-i-preserved
loop-i-preserved g c =
    let h = c.loop-i.invariant in
    let n = length-take-le c.min-count.result c.args.calls.now (omega arith) in
    let b : c.loop-i.i < c.min-count.result = omega (arith, n) in
    (list_turn _ _ _ _ _ _ _ _ _ _ _ (omega arith) b (omega arith) h.0 c.call-next.ensures, rest_turn c.loop-i.i c.loop-i.replies c.args.replies.now c.call-next.result.1 h.1)

pub returns : goal.returns
returns g c =
    let h = c.loop-i.invariant in
    let n = length-take-le c.min-count.result c.args.calls.now (omega arith) in
    let e : c.loop-i.i ≡ min (length c.args.calls.now) (length c.args.replies.now) = omega (arith, n) in
    let found = moment g.B.Board.rights g.B.Board.bytes (machine_of c.args.self) c.args.board.now c.args.reads.now c.args.writes.now in
    let left = moment g.B.Board.rights g.B.Board.bytes (machine_of c.loop-i.session) c.loop-i.board c.loop-i.reads c.loop-i.writes in
    let k = subst (λ n. Follows (after found.rights (given_calls n c.args.calls.now found) (point (phase_of c.args.self) found)) (take n c.loop-i.replies) (phase_of c.loop-i.session) found left) e h.0 in
    record {
      follows = k;
      rest = subst (λ n. drop n c.loop-i.replies ≡ drop n c.args.replies.now) e h.1;
      recounts = λ f q p. recounted f q _ _ _ _ _ _ k p;
    }
