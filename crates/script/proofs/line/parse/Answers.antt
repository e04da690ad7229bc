use Rattle.script.proofs.LineLemmas.{found_in, only_in, nothing_in}
use Rattle.script.proofs.line.parse.Goals as goal

pub returns-clause-found : goal.returns-clause-found
returns-clause-found c = found_in c.args.line.now c.read.result c.read.ensures

pub returns-clause-only : goal.returns-clause-only
returns-clause-only c = λ o s. only_in c.args.line.now c.read.result o c.read.ensures s

pub returns-clause-nothing : goal.returns-clause-nothing
returns-clause-nothing c = nothing_in c.args.line.now c.read.result c.read.ensures
