-- How a line falls into words.
use Rattle.std.specs.Prelude.{ℕ, ◌-◌, Bool, true, false, ◌||◌, ◌==◌, if◌then◌else◌, List, [], ◌∷◌, length, take, filter, slice_index, Option, Some, None}

-- a space or a tab stands between words
abbrev pub is_blank : ℕ → Bool
is_blank b = b == 32 || b == 9

-- b before the first piece
abbrev pub onto_first : ℕ → List (List ℕ) → List (List ℕ)
onto_first b [] = (b ∷ []) ∷ []
onto_first b (p ∷ ps) = (b ∷ p) ∷ ps

-- the pieces of a line that is cut at each blank
abbrev pub pieces : List ℕ → List (List ℕ)
pieces [] = [] ∷ []
pieces (b ∷ bs) = if is_blank b then [] ∷ pieces bs else onto_first b (pieces bs)

abbrev pub is_word : List ℕ → Bool
is_word [] = false
is_word (b ∷ bs) = true

-- the words are the pieces that are not empty
unfoldable pub words : List ℕ → List (List ℕ)
words line = filter is_word (pieces line)

-- the first of several, and the others
abbrev pub first_of : List (List ℕ) → Option (List ℕ × List (List ℕ))
first_of [] = None
first_of (w ∷ ws) = Some (w, ws)

-- a line from its first word on
abbrev pub from_word : List ℕ → List ℕ
from_word [] = []
from_word (b ∷ bs) = if is_blank b then from_word bs else b ∷ bs

-- the word that a line begins with, and what follows it
abbrev pub word_at : List ℕ → List ℕ
word_at [] = []
word_at (b ∷ bs) = if is_blank b then [] else b ∷ word_at bs

abbrev pub after_word : List ℕ → List ℕ
after_word [] = []
after_word (b ∷ bs) = if is_blank b then b ∷ bs else after_word bs

-- a line may end in a carriage return (13), which is no part of it
abbrev pub without_return : List ℕ → List ℕ
without_return line = if slice_index line (length line - 1) == 13 then take (length line - 1) line else line
