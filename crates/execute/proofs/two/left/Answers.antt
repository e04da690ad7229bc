use Rattle.std.proofs.Common.{refl, inl, inr}
use Rattle.bus.proofs.Laws.{gives}
use Rattle.execute.specs.Two.{left}
use Rattle.execute.proofs.two.left.Goals as goal

pub returns-in-Modify : goal.returns-in-Modify
unfolding left
returns-in-Modify g c = elim c.in-Modify.is [ inl e ↦ rw e c.write.ensures | inr e ↦ rw e c.write.ensures ]

pub returns-in-Read : goal.returns-in-Read
unfolding left
returns-in-Read g c = elim c.in-Read.is [ inl e ↦ rw e (gives refl) | inr e ↦ rw e (gives refl) ]
