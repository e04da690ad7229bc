-- What a line says.
use Rattle.std.specs.Prelude.{ℕ, List, [], ◌∷◌, slice_index, Option, Some, None, Result, Ok, Err, ok_or, bytes_eq, codes, ◌==◌, if◌then◌else◌}
use Rattle.script.specs.declared.command_name.CommandName.{CommandName}
use Rattle.script.specs.declared.command_name.CommandName.TheVariants as names
use Rattle.script.specs.declared.problem.Problem.{Problem}
use Rattle.script.specs.declared.problem.Problem.TheVariants.{UnknownCommand, UnknownBoard, WordMissing}
use Rattle.script.specs.Words.{words, from_word, after_word, without_return}
use Rattle.script.specs.Names.{name_of}
use Rattle.script.specs.Orders.{Order, case, ram, rom, sensor, cut, store, peek, dump, sheets, open_session, preset, start, step, run, close, reg, show, reads, writes, list, report}
use Rattle.script.specs.Fields.{◌>>=◌, word_in, number_at, byte_at, readings_at, contents_at, end_at}

-- one number and no other word, and two numbers and no other word
unfoldable pub one_number : CommandName → List (List ℕ) → Result ℕ Problem
one_number name ws = do
  n ← number_at name ws
  end ← end_at name n.1
  Ok n.0

unfoldable pub two_numbers : CommandName → List (List ℕ) → Result (ℕ × ℕ) Problem
two_numbers name ws = do
  m ← number_at name ws
  n ← number_at name m.1
  end ← end_at name n.1
  Ok (m.0, n.0)

-- the text of a case is what follows, as it stands
unfoldable pub case_in : List ℕ → Result Order Problem
case_in [] = Err (WordMissing names.Case)
case_in (b ∷ bs) = Ok (case (b ∷ bs))

-- the boards
unfoldable pub ram_in : List (List ℕ) → Result Order Problem
ram_in ws = do
  base ← number_at names.Board ws
  bytes ← contents_at names.Board base.1
  end ← end_at names.Board bytes.1
  Ok (ram base.0 bytes.0)

unfoldable pub rom_in : List (List ℕ) → Result Order Problem
rom_in ws = do
  base ← number_at names.Board ws
  bytes ← contents_at names.Board base.1
  end ← end_at names.Board bytes.1
  Ok (rom base.0 bytes.0)

unfoldable pub sensor_in : List (List ℕ) → Result Order Problem
sensor_in ws = do
  base ← number_at names.Board ws
  readings ← readings_at 16 names.Board base.1
  end ← end_at names.Board readings.1
  Ok (sensor base.0 readings.0)

unfoldable pub cut_in : List (List ℕ) → Result Order Problem
cut_in ws = do
  at ← one_number names.Board ws
  Ok (cut at)

abbrev pub board_of : List ℕ → List (List ℕ) → Result Order Problem
board_of kind ws =
    if bytes_eq kind (codes "ram") then ram_in ws
    else (if bytes_eq kind (codes "rom") then rom_in ws
    else (if bytes_eq kind (codes "sensor") then sensor_in ws
    else (if bytes_eq kind (codes "cut") then cut_in ws
    else Err UnknownBoard)))

unfoldable pub board_in : List (List ℕ) → Result Order Problem
board_in ws = do
  kind ← word_in names.Board ws
  board_of kind.0 kind.1

unfoldable pub store_in : List (List ℕ) → Result Order Problem
store_in ws = do
  address ← number_at names.Store ws
  byte ← byte_at names.Store address.1
  end ← end_at names.Store byte.1
  Ok (store address.0 byte.0)

-- what a command says: by its name, the text behind the name, and the words of that text
unfoldable pub order_of : CommandName → List ℕ → List (List ℕ) → Result Order Problem
order_of names.Case text ws = case_in text
order_of names.Board text ws = board_in ws
order_of names.Store text ws = store_in ws
order_of names.Peek text ws = one_number names.Peek ws >>= λ address. Ok (peek address)
order_of names.Dump text ws = two_numbers names.Dump ws >>= λ n. Ok (dump n.0 n.1)
order_of names.Sheets text ws = two_numbers names.Sheets ws >>= λ n. Ok (sheets n.0 n.1)
order_of names.Open text ws = end_at names.Open ws >>= λ end. Ok open_session
order_of names.Preset text ws = two_numbers names.Preset ws >>= λ n. Ok (preset n.0 n.1)
order_of names.Start text ws = one_number names.Start ws >>= λ pc. Ok (start pc)
order_of names.Step text ws = end_at names.Step ws >>= λ end. Ok step
order_of names.Run text ws = one_number names.Run ws >>= λ n. Ok (run n)
order_of names.Close text ws = end_at names.Close ws >>= λ end. Ok close
order_of names.Reg text ws = one_number names.Reg ws >>= λ n. Ok (reg n)
order_of names.Show text ws = end_at names.Show ws >>= λ end. Ok show
order_of names.Reads text ws = end_at names.Reads ws >>= λ end. Ok reads
order_of names.Writes text ws = end_at names.Writes ws >>= λ end. Ok writes
order_of names.List text ws = two_numbers names.List ws >>= λ n. Ok (list n.0 n.1)
order_of names.Report text ws = end_at names.Report ws >>= λ end. Ok report

-- by the words of a line and the text behind the first; a comment begins with `#` (35)
unfoldable pub command_of : List ℕ → List (List ℕ) → Result (Option Order) Problem
command_of text [] = Ok None
command_of text (first ∷ others) = if slice_index first 0 == 35 then Ok None else (do
  name ← ok_or (name_of first) UnknownCommand
  order ← order_of name text others
  Ok (Some order))

-- what a line says
abbrev pub line_said : List ℕ → Result (Option Order) Problem
line_said line = command_of (from_word (after_word (from_word line))) (words line)

unfoldable pub parsed : List ℕ → Result (Option Order) Problem
parsed line = line_said (without_return line)
