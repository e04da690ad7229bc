use Rattle.script.proofs.NameLemmas.{named_in, only_named}
use Rattle.script.proofs.command_name.CommandName.of.Goals as goal

pub returns-clause-found : goal.returns-clause-found
returns-clause-found c = named_in c.args.word.now c.first_named.result c.first_named.ensures

pub returns-clause-only : goal.returns-clause-only
returns-clause-only c = λ n h. only_named c.args.word.now c.first_named.result n c.first_named.ensures h
