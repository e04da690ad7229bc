-- Which line says which command.
use Rattle.std.specs.Prelude.{◌≡◌, ◌≢◌, ◌⊎◌, ℕ, ◌^◌, ◌<◌, List, [], ◌∷◌, length, slice_index, Some, codes}
use Rattle.script.specs.declared.command_name.CommandName.{CommandName}
use Rattle.script.specs.declared.command_name.CommandName.TheVariants as names
use Rattle.script.specs.Words.{words, from_word, after_word, without_return}
use Rattle.script.specs.Numbers.{number_of, bytes_of}
use Rattle.script.specs.Names.{name_text}
use Rattle.script.specs.Orders.{Bytes, given, file, Order, case, ram, rom, sensor, cut, store, peek, dump, sheets, open_session, preset, start, step, run, close, reg, show, reads, writes, list, report}

-- a word says a number below a limit
pub record SaysNumber (limit : ℕ) (word : List ℕ) (n : ℕ) : Type 0 where
  pub says : number_of word ≡ Some n
  pub below : n < limit

-- words that say readings, one each
abbrev pub SayReadings : List (List ℕ) → List ℕ → Type 0
SayReadings [] [] = Unit {0}
SayReadings [] (n ∷ ns) = ⊥
SayReadings (w ∷ ws) [] = ⊥
SayReadings (w ∷ ws) (n ∷ ns) = SaysNumber (2 ^ 16) w n × SayReadings ws ns

-- a word says bytes: `-` for none, or two digits each; or, behind `@` (64), the name of their file
abbrev pub SaysBytes : List ℕ → Bytes → Type 0
SaysBytes word (given bytes) = ((word ≡ codes "-") × (bytes ≡ [])) ⊎ (bytes_of word ≡ Some bytes)
SaysBytes word (file name) = (word ≡ 64 ∷ name) × (name ≢ [])

-- a command with no words behind it, with one number, and with two
abbrev pub IsAlone : CommandName → List (List ℕ) → Type 0
IsAlone name ws = ws ≡ name_text name ∷ []

abbrev pub HasOne : CommandName → ℕ → List (List ℕ) → Type 0
HasOne name n ws = (v : List ℕ) × (ws ≡ name_text name ∷ v ∷ []) × SaysNumber (2 ^ 32) v n

abbrev pub HasTwo : CommandName → ℕ → ℕ → ℕ → List (List ℕ) → Type 0
HasTwo name limit m n ws = (v w : List ℕ) × (ws ≡ name_text name ∷ v ∷ w ∷ []) × SaysNumber (2 ^ 32) v m × SaysNumber limit w n

-- a board of a kind, made with bytes
abbrev pub HasBytes : List ℕ → ℕ → Bytes → List (List ℕ) → Type 0
HasBytes kind base bytes ws = (v w : List ℕ) × (ws ≡ codes "board" ∷ kind ∷ v ∷ w ∷ []) × SaysNumber (2 ^ 32) v base × SaysBytes w bytes

-- words, of which the text behind the first is given too, say a command
abbrev pub Say : List ℕ → List (List ℕ) → Order → Type 0
Say text ws (case words) = (others : List (List ℕ)) × (ws ≡ codes "case" ∷ others) × (words ≡ text) × (text ≢ [])
Say text ws (ram base bytes) = HasBytes (codes "ram") base bytes ws
Say text ws (rom base bytes) = HasBytes (codes "rom") base bytes ws
Say text ws (sensor base readings) = (v : List ℕ) × (rs : List (List ℕ)) × (ws ≡ codes "board" ∷ codes "sensor" ∷ v ∷ rs) × SaysNumber (2 ^ 32) v base × SayReadings rs readings × (length readings ≡ 16)
Say text ws (cut at) = (v : List ℕ) × (ws ≡ codes "board" ∷ codes "cut" ∷ v ∷ []) × SaysNumber (2 ^ 32) v at
Say text ws (store address byte) = HasTwo names.Store (2 ^ 8) address byte ws
Say text ws (peek address) = HasOne names.Peek address ws
Say text ws (dump address count) = HasTwo names.Dump (2 ^ 32) address count ws
Say text ws (sheets r w) = HasTwo names.Sheets (2 ^ 32) r w ws
Say text ws open_session = IsAlone names.Open ws
Say text ws (preset register value) = HasTwo names.Preset (2 ^ 32) register value ws
Say text ws (start pc) = HasOne names.Start pc ws
Say text ws step = IsAlone names.Step ws
Say text ws (run n) = HasOne names.Run n ws
Say text ws close = IsAlone names.Close ws
Say text ws (reg register) = HasOne names.Reg register ws
Say text ws show = IsAlone names.Show ws
Say text ws reads = IsAlone names.Reads ws
Say text ws writes = IsAlone names.Writes ws
Say text ws (list address count) = HasTwo names.List (2 ^ 32) address count ws
Say text ws report = IsAlone names.Report ws

-- a line says a command
unfoldable pub Says : List ℕ → Order → Type 0
Says line o = let text = without_return line in Say (from_word (after_word (from_word text))) (words text) o

-- a line says nothing: it has no word, or the first begins with `#` (35)
abbrev pub AreSilent : List (List ℕ) → Type 0
AreSilent [] = Unit {0}
AreSilent (w ∷ ws) = slice_index w 0 ≡ 35

unfoldable pub SaysNothing : List ℕ → Type 0
SaysNothing line = AreSilent (words (without_return line))
