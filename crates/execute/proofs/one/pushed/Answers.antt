use Rattle.std.proofs.Common.{sym}
use Rattle.bus.proofs.Laws.{goes_on, ends_at, gives, hands_on}
use Rattle.execute.specs.One.{pushed}
use Rattle.execute.proofs.one.pushed.Goals as goal

pub returns-in_err-ask_bytes : goal.returns-in_err-ask_bytes
unfolding pushed
returns-in_err-ask_bytes g c = hands_on c.from_residual.ensures.1 (ends_at _ (rw c.register-top.ensures at c.in_err-ask_bytes.ensures))

pub returns : goal.returns
unfolding pushed
returns g c =
    rw (← c.register-top.ensures)
    (goes_on _ c.in_ok-ask_bytes.ensures (goes_on _ c.put_number.ensures (gives (sym c.with_register.ensures))))
