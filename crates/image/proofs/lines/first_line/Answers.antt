use Rattle.std.proofs.Common.{sym, ◌∙◌}
use Rattle.image.proofs.LineEnds.{lines_at, lines_none}
use Rattle.image.proofs.lines.first_line.Goals as goal

pub returns-in-Some-clause-lines : goal.returns-in-Some-clause-lines
returns-in-Some-clause-lines c = lines_at c.args.text.now c.in-Some.end (sym c.line_feed.ensures ∙ c.in-Some.is)

pub returns-in-None-clause-lines : goal.returns-in-None-clause-lines
returns-in-None-clause-lines c = lines_none c.args.text.now c.requires (sym c.line_feed.ensures ∙ c.in-None.is)
