use borrow.Author.Rules.{rules}
use mir.Val.{to_z, of_z}
use mir.Syntax.{w32}
use mathlib.Core.Path.{◌≡◌, ap, sym, ◌∙◌}
use Rattle.bus.proofs.Laws.{gives}
use Rattle.execute.specs.One.{branched}
use Rattle.execute.specs.Execute.{acted}
use Rattle.execute.proofs.dispatch.acted.Goals as goal

pub returns-in-Two : goal.returns-in-Two
unfolding acted
returns-in-Two g c = rw c.in-Two.is c.two_operands.ensures

pub returns-in-One : goal.returns-in-One
unfolding acted
returns-in-One g c = rw c.in-One.is c.one_operand.ensures

pub returns-in-Branch : goal.returns-in-Branch
unfolding acted
returns-in-Branch g c =
    let e : to_z w32 (of_z w32 c.in-Branch.d) ≡ c.in-Branch.d = search rules in
    rw c.in-Branch.is
    (gives (sym (c.branched.ensures ∙ ap (λ d. branched c.args.cpu c.in-Branch.k d c.args.next) e)))

pub returns-in-Bsr : goal.returns-in-Bsr
unfolding acted
returns-in-Bsr g c =
    let e : to_z w32 (of_z w32 c.in-Bsr.d) ≡ c.in-Bsr.d = search rules in
    rw c.in-Bsr.is
    (rw e at c.calling_relative.ensures)

pub returns-in-Rsr : goal.returns-in-Rsr
unfolding acted
returns-in-Rsr g c = rw c.in-Rsr.is c.returning.ensures

pub returns-in-Nop : goal.returns-in-Nop
unfolding acted
returns-in-Nop g c = rw c.in-Nop.is (gives (sym c.gone_on.ensures))

pub returns-in-Strings : goal.returns-in-Strings
unfolding acted
returns-in-Strings g c = rw c.in-Strings.is c.string_instruction.ensures
