use Rattle.std.proofs.Common.{◌≡◌, ◌+◌, drop}
use Rattle.assembly.specs.Joints.{passed}
use Rattle.assembly.proofs.made.Assembly.passed.Given as goal

abbrev pub invariant-loop-joint : goal.invariant-loop-joint
invariant-loop-joint l = (l.passed ≡ l.joint-index) × (l.passed + passed l.address (drop l.joint-index l.joint-items) ≡ passed l.address l.joint-items)
