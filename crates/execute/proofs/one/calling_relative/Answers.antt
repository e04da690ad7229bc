use borrow.Author.Rules.{rules}
use mathlib.Core.Path.{◌≡◌, ap, sym, ◌∙◌}
use Rattle.bus.proofs.Laws.{goes_on, ends_at, gives, hands_on}
use Rattle.processor.specs.Registers.{gone_on}
use Rattle.processor.specs.Operands.{displaced}
use Rattle.execute.specs.One.{calling_relative}
use mir.Val.{to_z, of_z}
use mir.Syntax.{w32}
use Rattle.execute.proofs.one.calling_relative.Goals as goal

pub returns-in_err-done : goal.returns-in_err-done
unfolding calling_relative
returns-in_err-done g c = hands_on c.from_residual.ensures.1 (ends_at _ (rw c.from.ensures at c.in_err-done.ensures))

pub returns : goal.returns
unfolding calling_relative
returns g c =
    let z : to_z w32 (of_z w32 c.args.displacement) ≡ c.args.displacement = search rules in
    goes_on _ (rw c.from.ensures at c.in_ok-done.ensures) (gives (sym (c.gone_on.ensures ∙ ap (gone_on c.in_ok-done.done c.args.cpu.flags) (c.displaced.ensures ∙ ap (displaced c.args.cpu.pc) z))))
