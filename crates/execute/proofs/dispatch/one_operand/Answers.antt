use Rattle.std.proofs.Common.{inl, inr}
use Rattle.execute.specs.Execute.{one_operand}
use Rattle.execute.proofs.dispatch.one_operand.Goals as goal

pub returns-in-Inc : goal.returns-in-Inc
unfolding one_operand
returns-in-Inc g c =
    elim c.in-Inc.is [
      | inl e ↦ rw e (rw e at c.altering.ensures)
      | inr (inl e) ↦ rw e (rw e at c.altering.ensures)
      | inr (inr e) ↦ rw e (rw e at c.altering.ensures)
    ]

pub returns-in-Push : goal.returns-in-Push
unfolding one_operand
returns-in-Push g c = rw c.in-Push.is c.pushing.ensures

pub returns-in-Pop : goal.returns-in-Pop
unfolding one_operand
returns-in-Pop g c = rw c.in-Pop.is c.popping.ensures

pub returns-in-Jmp : goal.returns-in-Jmp
unfolding one_operand
returns-in-Jmp g c = rw c.in-Jmp.is c.jumping.ensures

pub returns-in-Jsr : goal.returns-in-Jsr
unfolding one_operand
returns-in-Jsr g c = rw c.in-Jsr.is c.calling.ensures
