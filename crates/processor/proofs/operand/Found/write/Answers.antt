use Rattle.std.proofs.Common.{sym, refl}
use Rattle.bus.proofs.Laws.{goes_on, ends_at, gives, hands_on}
use Rattle.processor.specs.Operands.{write_at}
use Rattle.processor.proofs.operand.Found.write.Goals as goal

pub returns-in-InRegister : goal.returns-in-InRegister
unfolding write_at
returns-in-InRegister g c = rw c.in-InRegister.is (gives (sym c.write.ensures))

pub returns-in-Constant : goal.returns-in-Constant
unfolding write_at
returns-in-Constant g c = rw c.in-Constant.is (gives refl)

pub returns-in_err-ask_bytes-in-InMemory : goal.returns-in_err-ask_bytes-in-InMemory
unfolding write_at
returns-in_err-ask_bytes-in-InMemory g c = hands_on c.from_residual.ensures.1 (rw c.in-InMemory.is (ends_at _ c.in_err-ask_bytes-in-InMemory.ensures))

pub returns-in_ok-ask_bytes-in-InMemory : goal.returns-in_ok-ask_bytes-in-InMemory
unfolding write_at
returns-in_ok-ask_bytes-in-InMemory g c = rw c.in-InMemory.is (goes_on _ c.in_ok-ask_bytes-in-InMemory.ensures (goes_on _ c.put_number.ensures (gives refl)))
