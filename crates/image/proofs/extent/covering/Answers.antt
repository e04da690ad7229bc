use Rattle.std.proofs.Common.{arith}
use Rattle.image.proofs.Runs.{covered_none, covered_some}
use Rattle.image.proofs.extent.covering.Goals as goal

pub returns-in-None : goal.returns-in-None
returns-in-None c = covered_none c.args.extent c.args.start c.args.count c.in-None.is c.if-count-eq0.false

pub returns-in-Some : goal.returns-in-Some
returns-in-Some c =
    covered_some c.args.extent c.args.start c.args.count c.in-Some.extent.first c.in-Some.extent.last c.min.result c.max.result c.in-Some.is c.if-count-eq0.false (omega arith) (omega arith)
