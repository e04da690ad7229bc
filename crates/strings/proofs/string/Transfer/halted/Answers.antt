use Rattle.std.proofs.Common.{◌≡◌, ℕ, Bool, true, false, not, Option, is_some, is_none, sym, ◌∙◌}
use Rattle.bus.proofs.Laws.{goes_on, ends_at, gives, hands_on, by_case}
use Rattle.number.specs.Sizes.{byte_count}
use Rattle.strings.specs.Strings.{copied_until, string_done, with_carry, halted}
use Rattle.strings.proofs.string.Transfer.halted.Goals as goal

other : (b : Bool) (met : Option ℕ) → is_some met ≡ not b → b ≡ is_none met
other true met h = cc
other false met h = cc

pub returns-in_err-met : goal.returns-in_err-met
unfolding halted
returns-in_err-met g c =
    by_case (λ n. halted c.args.cpu c.args.self.size c.args.self.from c.args.self.to n c.args.next) (sym c.shorter-count.ensures)
    (hands_on c.from_residual.ensures.1
    (ends_at _ (by_case (λ v. copied_until (byte_count c.args.self.size) c.args.self.from c.args.self.to v c.shorter-count.result) (sym c.read.ensures) c.in_err-met.ensures)))

pub returns : goal.returns
unfolding halted
returns g c =
    by_case (λ n. halted c.args.cpu c.args.self.size c.args.self.from c.args.self.to n c.args.next) (sym c.shorter-count.ensures)
    (goes_on _ (by_case (λ v. copied_until (byte_count c.args.self.size) c.args.self.from c.args.self.to v c.shorter-count.result) (sym c.read.ensures) c.in_ok-met.ensures)
    (gives (sym (c.done.ensures ∙ (λ i. string_done c.args.cpu (byte_count c.args.self.size) c.args.self.from c.args.self.to (c.unwrap_or-end.ensures i) (c.unwrap_or-end.ensures i) (with_carry c.args.cpu.flags (other c.is_none.result c.in_ok-met.met c.is_none.ensures i)) c.args.next)))))
