use Rattle.std.proofs.Common.{◌≡◌, drop}
use Rattle.assembly.specs.Joints.{next_joint}
use Rattle.assembly.proofs.made.Assembly.before_joint.Given as goal

abbrev pub invariant-loop-joint : goal.invariant-loop-joint
invariant-loop-joint l = next_joint l.address (drop l.joint-index l.joint-items) ≡ next_joint l.address l.joint-items
