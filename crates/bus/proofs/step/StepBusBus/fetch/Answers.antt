use Rattle.std.proofs.Common.{◌≡◌, ◌+◌, sym, refl, ap, ◌∙◌, arith, rules}
use Rattle.std.specs.Option.{ok_or}
use Rattle.std.proofs.lemmas.List.{length-take, take_more_set, length-set, drop-set-lt}
use Rattle.bus.specs.declared.refusal.Refusal.TheVariants.{NoRight}
use Rattle.bus.specs.declared.line.ReadLine.{ReadLine}
use Rattle.bus.proofs.Laws.{now_on, hands_on}
use Rattle.bus.proofs.Single.{fetch_own, fetch_denied, fetch_listed, fetch_fresh, same_trail, one_line}
use Rattle.bus.proofs.Trace.{grown_none}
use Rattle.bus.proofs.step.StepBusBus.fetch.Goals as goal

pub returns-in-Some : goal.returns-in-Some
returns-in-Some g c = fetch_own _ _ (search rules) c.in-Some.ensures

pub returns-in_err-byte : goal.returns-in_err-byte
returns-in_err-byte g c =
    let h = c.in_err-byte.ensures in
    let e : c.in_err-byte.field-0.0 ≡ NoRight c.args.address = cc (h.value ∙ ap (λ o. ok_or o (NoRight c.args.address)) h.ok_part) in
    hands_on c.from_residual.ensures.1 (rw e (fetch_denied _ _ c.in_default.ensures (sym h.ok_part ∙ c.fetch.ensures.answer)))

pub returns-then-is_listed : goal.returns-then-is_listed
returns-then-is_listed g c =
    fetch_listed _ _ (search rules) c.in_default.ensures (sym c.in_ok-byte.ensures.ok_part ∙ c.fetch.ensures.answer) c.if-is_listed.ensures

pub returns-then-self : goal.returns-then-self
returns-then-self g c =
    let xs = c.args.self.now.reads.now in
    let n = c.args.self.now.used in
    let x : ReadLine = record { address = c.args.address; byte = c.in_ok-byte.byte } in
    fetch_fresh _ _ (search rules) c.in_default.ensures (sym c.in_ok-byte.ensures.ok_part ∙ c.fetch.ensures.answer) c.if-is_listed.ensures
    (λ _. same_trail (take_more_set xs n x c.if-self.true) refl) (one_line _ x _ (take_more_set xs n x c.if-self.true) refl) refl refl
    (record { more = omega arith; within = λ _. omega (arith, length-set xs n x); long = length-set xs n x; past = drop-set-lt (n + 1) xs n x (omega arith) })

pub returns-else-self : goal.returns-else-self
returns-else-self g c =
    let l = length-take c.args.self.now.used c.args.self.now.reads.now in
    fetch_fresh _ _ (search rules) c.in_default.ensures (sym c.in_ok-byte.ensures.ok_part ∙ c.fetch.ensures.answer) c.if-is_listed.ensures
    (λ h. absurd (omega arith)) (grown_none _) refl refl now_on
