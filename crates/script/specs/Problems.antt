-- What is wrong with a line, and what would be right, as text.
use Rattle.std.specs.Prelude.{ℕ, List, ◌++◌, codes}
use Rattle.script.specs.declared.problem.Problem.{Problem}
use Rattle.script.specs.declared.problem.Problem.TheVariants.{UnknownCommand, UnknownBoard, WordMissing, WordTooMany, NotANumber, NumberTooLarge, ByteTooLarge, ReadingTooLarge, NotBytes, OddDigits, NoFileName}
use Rattle.script.specs.Names.{usage_text}

abbrev pub problem_text : Problem → List ℕ
problem_text UnknownCommand = codes "no such command: it is case, board, store, peek, dump, sheets, open, preset, start, step, run, close, reg, show, reads, writes, list or report"
problem_text UnknownBoard = codes "no such board: it is board ram, board rom, board sensor or board cut"
problem_text (WordMissing name) = codes "a word is missing: it is " ++ usage_text name
problem_text (WordTooMany name) = codes "a word too many: it is " ++ usage_text name
problem_text NotANumber = codes "not a number: it is hexadecimal digits, without a prefix"
problem_text NumberTooLarge = codes "too large a number: it is FFFFFFFF at the most"
problem_text ByteTooLarge = codes "too large a byte: it is FF at the most"
problem_text ReadingTooLarge = codes "too large a reading: it is FFFF at the most"
problem_text NotBytes = codes "not bytes: they are two hexadecimal digits each, or - for none, or @ and the name of a file"
problem_text OddDigits = codes "a digit is missing: bytes are two hexadecimal digits each"
problem_text NoFileName = codes "no file: the name of a file follows the @"
