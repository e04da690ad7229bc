use Rattle.instruction.proofs.Fetches.{reads_decode}
use Rattle.instruction.proofs.bound.fetches_at_most_22.Goals as goal

pub returns : goal.returns
returns c = reads_decode c.args.pc
