use Rattle.std.proofs.Common.{◌≡◌, drop}
use Rattle.assembly.specs.Joints.{answering}
use Rattle.assembly.proofs.made.Assembly.bank.Given as goal

abbrev pub invariant-loop-joint : goal.invariant-loop-joint
invariant-loop-joint l = answering l.address l.bank (drop l.joint-index l.joint-items) ≡ answering l.address l.self.first l.joint-items
