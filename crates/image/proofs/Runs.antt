-- Bytes one after another, as they are covered and put.
use Rattle.std.proofs.Common.{◌≡◌, ◌≢◌, ℕ, ◌+◌, ◌-◌, Ok, Err, List, [], ◌∷◌, length, Option, Some, None, refl, ap, sym, ◌∙◌, arith, min, max, fold}
use Rattle.image.specs.declared.extent.Extent.{Extent}
use Rattle.image.specs.Texts.{Cells, cells, with_front}
use Rattle.image.specs.Image.{covered, of_ok}
use Rattle.std.proofs.lemmas.List.Sums.{fold-append}

abbrev pub spans : ℕ → ℕ → Option Extent
spans first last = Some (record { first = first; last = last })

same_span : (a b c d : ℕ) → a ≡ b → c ≡ d → spans a c ≡ spans b d
same_span a b c d e f = ap (λ n. spans n c) e ∙ ap (spans b) f

-- an extent once bytes from an address on are covered too
pub covered_run : (first last address b : ℕ) (bs : List ℕ) → fold covered (spans first last) (cells address (b ∷ bs)) ≡ spans (min address first) (max (address + length bs) last)
covered_run first last address b [] = same_span _ _ _ _ (omega arith) (omega arith)
covered_run first last address b (c ∷ cs) = covered_run (min first address) (max last address) (address + 1) c cs ∙ same_span _ _ _ _ (omega arith) (omega arith)

-- the extent of bytes from an address on
pub covered_first : (address b : ℕ) (bs : List ℕ) → fold covered None (cells address (b ∷ bs)) ≡ spans address (address + length bs)
covered_first address b [] = same_span _ _ _ _ refl (omega arith)
covered_first address b (c ∷ cs) = covered_run address address (address + 1) c cs ∙ same_span _ _ _ _ (omega arith) (omega arith)

pub covered_none : (extent : Option Extent) (address count : ℕ) → extent ≡ None → count ≢ 0 → (bytes : List ℕ) → length bytes ≡ count → spans address (address + (count - 1)) ≡ fold covered extent (cells address bytes)
covered_none extent address count none some [] e = absurd (some (sym e))
covered_none extent address count none some (b ∷ bs) e =
    same_span _ _ _ _ refl (omega arith) ∙ sym (ap (λ x. fold covered x (cells address (b ∷ bs))) none ∙ covered_first address b bs)

pub covered_some : (extent : Option Extent) (address count first last low high : ℕ) → extent ≡ spans first last → count ≢ 0 → low ≡ min address first → high ≡ max (address + (count - 1)) last → (bytes : List ℕ) → length bytes ≡ count → spans low high ≡ fold covered extent (cells address bytes)
covered_some extent address count first last low high was some is_low is_high [] e = absurd (some (sym e))
covered_some extent address count first last low high was some is_low is_high (b ∷ bs) e =
    same_span _ _ _ _ is_low (omega arith) ∙ sym (ap (λ x. fold covered x (cells address (b ∷ bs))) was ∙ covered_run first last address b bs)

-- a fold over some bytes and then what the rest says
pub of_ok_front : {B : Type 0} (f : B → ℕ × ℕ → B) (a : B) (front : List (ℕ × ℕ)) (x : Cells) → of_ok (fold f a) (with_front front x) ≡ of_ok (fold f (fold f a front)) x
of_ok_front f a front (Ok rest) = ap (λ b. Ok b) (fold-append f a front rest)
of_ok_front f a front (Err problem) = refl
