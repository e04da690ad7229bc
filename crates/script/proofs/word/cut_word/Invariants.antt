use Rattle.std.proofs.Common.{◌≡◌, ◌++◌, take, drop}
use Rattle.script.specs.Words.{word_at, after_word}
use Rattle.script.proofs.word.cut_word.Given as goal

abbrev pub invariant-loop-i : goal.invariant-loop-i
invariant-loop-i l = (take l.i l.line ++ word_at (drop l.i l.line) ≡ word_at l.line) × (after_word (drop l.i l.line) ≡ after_word l.line)
