use Rattle.std.proofs.Common.{◌≡◌, ℕ, Bool, true, false, cond, not, sym, refl, ap, ◌∙◌}
use Rattle.board.specs.Block.{above}
use Rattle.bus.specs.Program.{Program, give, ◌>>=◌}
use Rattle.bus.proofs.Laws.{goes_on, ends_at, gives, hands_on, by_case}
use Rattle.instruction.specs.declared.operand.Operand.TheVariants.{Register as register}
use Rattle.instruction.specs.declared.action.Action.{Action}
use Rattle.instruction.specs.declared.action.Action.TheVariants.{Two as two}
use Rattle.instruction.specs.declared.part.Part.{Part}
use Rattle.instruction.specs.declared.format.Pair.{Pair}
use Rattle.instruction.specs.Operations.{first_access, second_access}
use Rattle.instruction.specs.Modes.{register_verdict}
use Rattle.instruction.specs.Decode.{part, permit, operand_at}
use Rattle.instruction.specs.Formats.{register_first, register_second}
use Rattle.instruction.proofs.Permits.{permits}
use Rattle.instruction.proofs.format.register_and_mode.Goals as goal

-- the two in one, by d
abbrev either : ℕ → Pair → Bool → Bool → ℕ → Program (Part Action)
either pc p d m n =
    permit (above pc 1) (register_verdict (cond d (second_access p.operation) (first_access p.operation)) (cond d p.second p.first) n) >>= λ _.
    operand_at (above pc 2) m (cond (not d) p.second p.first) (cond (not d) (second_access p.operation) (first_access p.operation)) >>= λ x.
    give (part (cond d (two p.operation p.first p.second x.value (register n)) (two p.operation p.first p.second (register n) x.value)) x.next)

by_d : (pc : ℕ) (p : Pair) (d m : Bool) (n : ℕ) → cond d (register_second pc p.operation p.first p.second m n) (register_first pc p.operation p.first p.second m n) ≡ either pc p d m n
unfolding register_first register_second
by_d pc p true m n = refl
by_d pc p false m n = refl

pub returns-in_err-permit : goal.returns-in_err-permit
returns-in_err-permit g c =
    let a = c.args in
    let v = c.register_verdict-verdict.ensures ∙ (λ i. register_verdict (c.access.ensures i) (c.size.ensures i) a.n) in
    by_case (λ p. p) (by_d a.pc a.pair a.d a.m a.n) (hands_on c.from_residual.ensures.1 (ends_at _ (permits _ v c.in_err-permit.ensures)))

pub returns-in_err-x : goal.returns-in_err-x
returns-in_err-x g c =
    let a = c.args in
    let v = c.register_verdict-verdict.ensures ∙ (λ i. register_verdict (c.access.ensures i) (c.size.ensures i) a.n) in
    by_case (λ p. p) (by_d a.pc a.pair a.d a.m a.n)
    (hands_on c.from_residual-in_err-x.ensures.1
    (goes_on _ (permits _ v c.in_ok-permit.ensures)
    (ends_at _ (by_case (λ p. p) (λ i. operand_at (above a.pc 2) a.m (sym c.size-size.ensures i) (sym c.access-access.ensures i)) c.in_err-x.ensures))))

pub returns : goal.returns
returns g c =
    let a = c.args in
    let v = c.register_verdict-verdict.ensures ∙ (λ i. register_verdict (c.access.ensures i) (c.size.ensures i) a.n) in
    by_case (λ p. p) (by_d a.pc a.pair a.d a.m a.n)
    (goes_on _ (permits _ v c.in_ok-permit.ensures)
    (goes_on _ (by_case (λ p. p) (λ i. operand_at (above a.pc 2) a.m (sym c.size-size.ensures i) (sym c.access-access.ensures i)) c.in_ok-x.ensures)
    (gives (ap (λ y. part y c.in_ok-x.x.next) (sym c.action.ensures)))))
