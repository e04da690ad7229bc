-- The commands by name, and the words that each takes.
use Rattle.std.specs.Prelude.{ℕ, List, ◌++◌, Option, find, bytes_eq, codes}
use Rattle.script.specs.declared.command_name.CommandName.{CommandName}
use Rattle.script.specs.declared.command_name.CommandName.TheVariants.{Case, Board, Store, Peek, Dump, Sheets, Open, Preset, Start, Step, Run, Close, Reg, Show, Reads, Writes, List as Listing, Report}
use Rattle.script.specs.declared.command_name.TheConstants.CommandName.{ALL}

abbrev pub name_text : CommandName → List ℕ
name_text Case = codes "case"
name_text Board = codes "board"
name_text Store = codes "store"
name_text Peek = codes "peek"
name_text Dump = codes "dump"
name_text Sheets = codes "sheets"
name_text Open = codes "open"
name_text Preset = codes "preset"
name_text Start = codes "start"
name_text Step = codes "step"
name_text Run = codes "run"
name_text Close = codes "close"
name_text Reg = codes "reg"
name_text Show = codes "show"
name_text Reads = codes "reads"
name_text Writes = codes "writes"
name_text Listing = codes "list"
name_text Report = codes "report"

-- the command whose name a word is
unfoldable pub name_of : List ℕ → Option CommandName
name_of word = find (λ n. bytes_eq (name_text n) word) ALL

-- the words that follow it
abbrev pub words_text : CommandName → List ℕ
words_text Case = codes " WORDS"
words_text Board = codes " ram BASE BYTES, board rom BASE BYTES, board sensor BASE R0 .. R15 or board cut AT"
words_text Store = codes " ADDR BYTE"
words_text Peek = codes " ADDR"
words_text Dump = codes " ADDR COUNT"
words_text Sheets = codes " READS WRITES"
words_text Open = codes ""
words_text Preset = codes " N V"
words_text Start = codes " PC"
words_text Step = codes ""
words_text Run = codes " N"
words_text Close = codes ""
words_text Reg = codes " N"
words_text Show = codes ""
words_text Reads = codes ""
words_text Writes = codes ""
words_text Listing = codes " ADDR COUNT"
words_text Report = codes ""

-- how a command is used
abbrev pub usage_text : CommandName → List ℕ
usage_text n = name_text n ++ words_text n
