use Rattle.assembly.proofs.Cuts.{cut_boards}
use Rattle.assembly.proofs.stack.Stack.cut.Goals as goal

pub returns-in-Ok-clause-ok : goal.returns-in-Ok-clause-ok
returns-in-Ok-clause-ok c =
    let above = rw c.unwrap-upper.ensures at c.pop.ensures.items in
    let below = rw c.unwrap-lower.ensures at c.pop-2.ensures.items in
    let pushed = rw c.unwrap.ensures at c.push.ensures.items in
    let were = rw below at above in
    rw (pushed, ← c.self.view_is, were) (cut_boards _ _ _ _ _ c.in-Ok.ensures.ok)
