use Rattle.std.proofs.Common.{◌<◌, rules}
use Rattle.instruction.specs.Opcodes.{entry}
use Rattle.instruction.proofs.Table.{rule}
use Rattle.instruction.proofs.opcode.look_up.Goals as goal

pub returns : goal.returns
unfolding entry
returns c = let h : c.args.opcode < 256 = search rules in search (rules, rule c.args.opcode c.from.result c.from.ensures h)
