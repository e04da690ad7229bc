use Rattle.std.proofs.Common.{sym}
use Rattle.assembly.proofs.Puts.{held_changed}
use Rattle.assembly.proofs.bank.put.Goals as goal

pub returns-in-Some-clause-bytes : goal.returns-in-Some-clause-bytes
returns-in-Some-clause-bytes c =
    let is_placed = rw c.deref.ensures.value at c.in-Some.ensures in
    held_changed _ _ _ _ _ _ _ (sym is_placed) c.set.ensures.bytes
