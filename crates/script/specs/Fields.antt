-- The words that commands take, from left to right, with the first problem that is met.
use Rattle.std.specs.Prelude.{ℕ, zero, suc, ◌^◌, List, [], ◌∷◌, drop, slice_index, Option, Some, None, option_map, ok_or, Result, Ok, Err, nat_lt, bytes_eq, codes, ◌==◌, if◌then◌else◌}
use Rattle.script.specs.declared.command_name.CommandName.{CommandName}
use Rattle.script.specs.declared.problem.Problem.{Problem}
use Rattle.script.specs.declared.problem.Problem.TheVariants.{WordMissing, WordTooMany, NotANumber, NumberTooLarge, ByteTooLarge, ReadingTooLarge, NotBytes, OddDigits, NoFileName}
use Rattle.script.specs.Numbers.{number_of, are_digits, bytes_of}
use Rattle.script.specs.Orders.{Bytes, given, file}

infixl 10 ◌>>=◌
abbrev pub ◌>>=◌ : {A B : Type 0} → Result A Problem → (A → Result B Problem) → Result B Problem
(Ok x) >>= f = f x
(Err e) >>= f = Err e

-- what was returned, seen by view
abbrev pub seen : {A B : Type 0} → (A → B) → Result A Problem → Result B Problem
seen view (Ok x) = Ok (view x)
seen view (Err e) = Err e

-- a number, if there is one and it is below a limit
abbrev pub within : ℕ → Problem → Option ℕ → Result ℕ Problem
within limit too_large None = Err NotANumber
within limit too_large (Some n) = if nat_lt n limit then Ok n else Err too_large

abbrev pub number_in : ℕ → Problem → List ℕ → Result ℕ Problem
number_in limit too_large word = within limit too_large (number_of word)

-- bytes in digits, two each
abbrev pub digits_in : List ℕ → Result Bytes Problem
digits_in word = ok_or (option_map given (bytes_of word)) (if are_digits word then OddDigits else NotBytes)

-- the name of a file is one byte or more
abbrev pub file_in : List ℕ → Result Bytes Problem
file_in [] = Err NoFileName
file_in (b ∷ bs) = Ok (file (b ∷ bs))

-- `-` for no bytes, `@` (64) and the name of a file, or digits
unfoldable pub contents_in : List ℕ → Result Bytes Problem
contents_in word =
    if bytes_eq word (codes "-") then Ok (given [])
    else (if slice_index word 0 == 64 then file_in (drop 1 word)
    else digits_in word)

-- The next word of a command, and the words after it.
unfoldable pub word_in : CommandName → List (List ℕ) → Result (List ℕ × List (List ℕ)) Problem
word_in name [] = Err (WordMissing name)
word_in name (w ∷ ws) = Ok (w, ws)

abbrev pub limited_at : ℕ → Problem → CommandName → List (List ℕ) → Result (ℕ × List (List ℕ)) Problem
limited_at limit too_large name ws = do
  w ← word_in name ws
  n ← number_in limit too_large w.0
  Ok (n, w.1)

unfoldable pub number_at : CommandName → List (List ℕ) → Result (ℕ × List (List ℕ)) Problem
number_at name ws = limited_at (2 ^ 32) NumberTooLarge name ws

unfoldable pub byte_at : CommandName → List (List ℕ) → Result (ℕ × List (List ℕ)) Problem
byte_at name ws = limited_at (2 ^ 8) ByteTooLarge name ws

unfoldable pub reading_at : CommandName → List (List ℕ) → Result (ℕ × List (List ℕ)) Problem
reading_at name ws = limited_at (2 ^ 16) ReadingTooLarge name ws

-- so many readings
unfoldable pub readings_at : ℕ → CommandName → List (List ℕ) → Result (List ℕ × List (List ℕ)) Problem
readings_at zero name ws = Ok ([], ws)
readings_at (suc n) name ws = do
  first ← reading_at name ws
  others ← readings_at n name first.1
  Ok (first.0 ∷ others.0, others.1)

unfoldable pub contents_at : CommandName → List (List ℕ) → Result (Bytes × List (List ℕ)) Problem
contents_at name ws = do
  w ← word_in name ws
  b ← contents_in w.0
  Ok (b, w.1)

-- no word is left
unfoldable pub end_at : CommandName → List (List ℕ) → Result (Unit {0}) Problem
end_at name [] = Ok tt
end_at name (w ∷ ws) = Err (WordTooMany name)
