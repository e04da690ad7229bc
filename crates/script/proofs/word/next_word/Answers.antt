use Rattle.std.proofs.Common.{◌≡◌, [], ap, sym, arith}
use Rattle.std.proofs.lemmas.Grind.{common_steps}
use Rattle.script.specs.Words.{from_word, first_of}
use Rattle.script.proofs.WordsLemmas.{word_comes, no_word_comes}
use Rattle.script.proofs.word.next_word.Goals as goal

pub returns-then-is_empty-clause-words : goal.returns-then-is_empty-clause-words
returns-then-is_empty-clause-words c =
    let none : from_word c.args.line.now ≡ [] = grind (arith, common_steps) in
    sym (ap first_of (no_word_comes c.args.line.now none))

pub returns-clause-words : goal.returns-clause-words
returns-clause-words c =
    let some = word_comes c.args.line.now (grind (arith, common_steps)) in
    rw some (grind (arith, common_steps))
