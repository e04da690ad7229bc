-- Words of a line, one after another.
use Rattle.std.proofs.Common.{◌≡◌, ℕ, ◌<◌, Bool, true, false, cond, List, [], ◌∷◌, length, refl, sym, ap, ◌∙◌, arith}
use Rattle.std.specs.Prelude.{filter}
use Rattle.script.specs.Words.{is_blank, onto_first, pieces, is_word, words, from_word, word_at, after_word}

-- the pieces after the first one
abbrev later : List ℕ → List (List ℕ)
later [] = []
later (b ∷ bs) = pieces bs

-- the first piece is the word that a line begins with
first_piece : (line : List ℕ) → pieces line ≡ word_at line ∷ later (after_word line)
first_piece [] = refl
first_piece (b ∷ bs) = by (is_blank b) (first_piece bs) where
  by : (t : Bool) → pieces bs ≡ word_at bs ∷ later (after_word bs)
      → cond t ([] ∷ pieces bs) (onto_first b (pieces bs)) ≡ cond t [] (b ∷ word_at bs) ∷ later (cond t (b ∷ bs) (after_word bs))
  by true h = refl
  by false h = rw h refl

-- what follows a word has the words of the later pieces
rest_words : (line : List ℕ) → filter is_word (pieces (after_word line)) ≡ filter is_word (later (after_word line))
rest_words [] = refl
rest_words (b ∷ bs) = by (is_blank b) refl (rest_words bs) where
  by : (t : Bool) → is_blank b ≡ t → filter is_word (pieces (after_word bs)) ≡ filter is_word (later (after_word bs))
      → filter is_word (pieces (cond t (b ∷ bs) (after_word bs))) ≡ filter is_word (later (cond t (b ∷ bs) (after_word bs)))
  by true e h = rw e refl
  by false e h = h

-- blanks before a word are no words
pub words-from_word : (line : List ℕ) → words (from_word line) ≡ words line
unfolding words
words-from_word [] = refl
words-from_word (b ∷ bs) = by (is_blank b) refl (words-from_word bs) where
  by : (t : Bool) → is_blank b ≡ t → filter is_word (pieces (from_word bs)) ≡ filter is_word (pieces bs)
      → filter is_word (pieces (cond t (from_word bs) (b ∷ bs))) ≡ filter is_word (cond t ([] ∷ pieces bs) (onto_first b (pieces bs)))
  by true e h = h
  by false e h = rw e refl

-- where blanks are skipped, a word comes first
pub word_comes : (line : List ℕ) → 0 < length (from_word line) → words line ≡ word_at (from_word line) ∷ words (after_word (from_word line))
unfolding words
word_comes [] h = absurd (omega arith)
word_comes (b ∷ bs) h = by (is_blank b) refl h (word_comes bs) where
  by : (t : Bool) → is_blank b ≡ t → 0 < length (cond t (from_word bs) (b ∷ bs))
      → (0 < length (from_word bs) → filter is_word (pieces bs) ≡ word_at (from_word bs) ∷ filter is_word (pieces (after_word (from_word bs))))
      → filter is_word (cond t ([] ∷ pieces bs) (onto_first b (pieces bs))) ≡ word_at (cond t (from_word bs) (b ∷ bs)) ∷ filter is_word (pieces (after_word (cond t (from_word bs) (b ∷ bs))))
  by true e h more = more h
  by false e h more = rw (e, first_piece bs) (ap (λ (ws : List (List ℕ)). (b ∷ word_at bs) ∷ ws) (sym (rest_words bs)))

-- and where nothing is left, no word does
pub no_word_comes : (line : List ℕ) → from_word line ≡ [] → words line ≡ []
unfolding words
no_word_comes line e = let none : words [] ≡ [] = refl in sym (words-from_word line) ∙ ap words e ∙ none
