use Rattle.execute.proofs.sized.SizedOperand.locate.Goals as goal

pub returns : goal.returns
returns g c = rw c.bytes.ensures at c.locate.ensures
