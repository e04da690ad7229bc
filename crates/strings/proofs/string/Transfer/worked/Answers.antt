use Rattle.strings.specs.Strings.{worked}
use Rattle.strings.proofs.string.Transfer.worked.Goals as goal

pub returns-in-Movc : goal.returns-in-Movc
unfolding worked
returns-in-Movc g c = rw c.in-Movc.is c.moved.ensures

pub returns-in-Movcf : goal.returns-in-Movcf
unfolding worked
returns-in-Movcf g c = rw c.in-Movcf.is c.padded.ensures

pub returns-in-Movcs : goal.returns-in-Movcs
unfolding worked
returns-in-Movcs g c = rw c.in-Movcs.is c.halted.ensures
