use Rattle.std.proofs.Common.{sym}
use Rattle.bus.proofs.Laws.{gives}
use Rattle.processor.specs.Operands.{read_at}
use Rattle.processor.proofs.operand.Found.read.Goals as goal

pub returns-in-InRegister : goal.returns-in-InRegister
unfolding read_at
returns-in-InRegister g c = rw c.in-InRegister.is (gives (sym c.read.ensures))

pub returns-in-Constant : goal.returns-in-Constant
unfolding read_at
returns-in-Constant g c = rw c.in-Constant.is (gives (sym c.from.ensures))

pub returns-in-InMemory : goal.returns-in-InMemory
unfolding read_at
returns-in-InMemory g c = rw c.in-InMemory.is c.fetch_number.ensures
