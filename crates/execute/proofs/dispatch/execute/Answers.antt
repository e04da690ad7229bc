use Rattle.execute.proofs.dispatch.execute.Goals as goal

pub returns : goal.returns
returns g c = rw (c.length.ensures, c.action.ensures) at c.acted.ensures
