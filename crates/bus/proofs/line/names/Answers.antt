use Rattle.std.proofs.Common.{arith}
use Rattle.std.proofs.lemmas.Bool.Decides.{nat_tests}
use Rattle.bus.proofs.Lines.{names_more}
use Rattle.bus.proofs.line.names.Goals as goal

pub loop-line-preserved : goal.loop-line-preserved
loop-line-preserved g c =
    let e = names_more g.L.Line.at c.args.address c.args.lines.now c.loop-line.line-index c.line-item.result (omega arith) in
    grind (arith, nat_tests)
