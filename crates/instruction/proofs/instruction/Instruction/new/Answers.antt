use Rattle.std.proofs.Common.{sym}
use Rattle.instruction.proofs.Admitted.{lawful_if}
use Rattle.instruction.proofs.instruction.Instruction.new.Goals as goal

pub invariant_of-result : goal.invariant_of-result
invariant_of-result c = record { ok = lawful_if c.args.action c.args.length (sym c.in_ok-admit.ensures) }
