use Rattle.std.proofs.lemmas.List.{append_assoc}
use Rattle.assembly.proofs.Joins.{joined_cut}
use Rattle.assembly.proofs.made.Assembly.cut.Goals as goal

pub returns-clause-ok : goal.returns-clause-ok
returns-clause-ok c =
    let kept = c.truncate.ensures.items in
    let pushed = rw c.unwrap.ensures at c.push.ensures.items in
    let appended = rw c.unwrap-2.ensures at c.append.ensures.items in
    let number = c.passed-kept.ensures.number in
    let reserved = c.reserve.ensures.items in
    rw (appended, pushed, kept, number, reserved, append_assoc) (joined_cut _ _ _ _ _ c.if-at-eq0.false)
