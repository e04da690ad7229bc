use Rattle.std.proofs.Common.{◌%◌, ◌<◌, ◌≡◌, sym, arith, rules}
use Rattle.number.proofs.Table.{rule}
use Rattle.number.proofs.flags.entry.Goals as goal

pub returns : goal.returns
returns c = λ f.
    let e : c.from.result ≡ c.args.condition % 16 = c.from.ensures in
    let h : c.from.result < 16 = omega arith in
    rw (sym e) (search (rules, rule f c.from.result))
