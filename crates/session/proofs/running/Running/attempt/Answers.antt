use Rattle.std.proofs.Common.{◌≡◌, Err, sym, rules}
use Rattle.session.proofs.Steps.{not_admitted, refused, accepted}
use Rattle.session.proofs.running.Running.attempt.Goals as goal

pub returns-in_err-admit_step : goal.returns-in_err-admit_step
returns-in_err-admit_step g c =
    let e : c.from_residual.result ≡ Err c.in_err-admit_step.field-0.0 = search rules in
    not_admitted _ _ _ c.in_err-admit_step.ensures e

pub returns-in_err-self : goal.returns-in_err-self
returns-in_err-self g c =
    let h = c.try_step-tried.ensures in
    let e : c.from_residual-in_err-self.result ≡ Err c.in_err-self.field-0.0 = search rules in
    refused _ _ _ _ _ (sym c.in_ok-admit_step.ensures) h.comes h.later _ c.in_err-self.was _ e

pub returns : goal.returns
returns g c =
    let h = c.try_step-tried.ensures in
    let k = c.commit.ensures in
    accepted _ _ _ _ _ (sym c.in_ok-admit_step.ensures) h.comes h.later
    _ c.len.ensures.count c.len.ensures.few _ c.in_ok-self.was _ k.answer _ _ _ k.rights k.bytes k.lines c.commit.auto.writes
