use Rattle.std.proofs.Common.{refl, sym, inl, inr, ◌∙◌}
use Rattle.bus.proofs.Laws.{gives}
use Rattle.execute.specs.Two.{taken}
use Rattle.execute.proofs.two.taken.Goals as goal

pub returns-in-Read : goal.returns-in-Read
unfolding taken
returns-in-Read g c = elim c.in-Read.is [ inl e ↦ rw e c.read.ensures | inr e ↦ rw e c.read.ensures ]

pub returns-in-Write : goal.returns-in-Write
unfolding taken
returns-in-Write g c = rw c.in-Write.is (gives refl)

pub returns-in-Address : goal.returns-in-Address
unfolding taken
returns-in-Address g c = rw c.in-Address.is (gives (sym (c.from.ensures ∙ c.address.ensures)))
