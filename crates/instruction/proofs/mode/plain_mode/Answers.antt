use Rattle.std.proofs.Common.{◌≡◌, ◌/◌, ◌%◌, ◌<◌, get_or, None, sym, ap, ◌∙◌, arith, rules}
use Rattle.instruction.specs.Modes.{plain_modes}
use Rattle.instruction.proofs.mode.plain_mode.Goals as goal

pub returns-in_default : goal.returns-in_default
returns-in_default c =
    let h : c.args.byte < 256 = search rules in
    let e : c.args.byte / 32 ≡ 7 = omega arith in
    c.listed_mode.ensures ∙ sym (ap (λ k. get_or (plain_modes (c.args.byte % 32)) k None) e)
