use Rattle.std.proofs.Common.{sym, ap, ◌∙◌}
use Rattle.bus.proofs.Laws.{goes_on, ends_at, gives, hands_on}
use Rattle.board.specs.Block.{above}
use Rattle.processor.specs.Registers.{with_register}
use Rattle.execute.specs.One.{popped}
use Rattle.execute.proofs.one.popped.Goals as goal

pub returns-in_err-word : goal.returns-in_err-word
unfolding popped
returns-in_err-word g c = hands_on c.from_residual.ensures.1 (ends_at _ (rw c.register-top.ensures at c.in_err-word.ensures))

pub returns : goal.returns
unfolding popped
returns g c =
    goes_on _ (rw c.register-top.ensures at c.in_ok-word.ensures)
    (gives (sym (ap (λ z. (z, c.in_ok-word.word)) (c.with_register.ensures ∙ ap (λ t. with_register c.args.cpu 31 (above t 4)) c.register-top.ensures))))
