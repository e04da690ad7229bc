-- Hexadecimal numbers and bytes.
use Rattle.std.specs.Prelude.{ℕ, ◌+◌, ◌-◌, ◌*◌, ◌%◌, Bool, ◌&&◌, ◌==◌, nat_le, if◌then◌else◌, List, [], ◌∷◌, length, Option, Some, None, is_some, unwrap_or, option_and_then}
use Rattle.std.specs.List.{list_all}

-- a byte from low to high
abbrev pub is_within : ℕ → ℕ → ℕ → Bool
is_within low high b = nat_le low b && nat_le b high

-- what a digit stands for: `0` to `9` are 48 to 57, `A` to `F` 65 to 70, `a` to `f` 97 to 102
abbrev pub digit_of : ℕ → Option ℕ
digit_of b =
    if is_within 48 57 b then Some (b - 48)
    else (if is_within 65 70 b then Some (b - 65 + 10)
    else (if is_within 97 102 b then Some (b - 97 + 10)
    else None))

-- the number that digits after n make
abbrev pub with_digits : ℕ → List ℕ → Option ℕ
with_digits n [] = Some n
with_digits n (b ∷ bs) = option_and_then (λ d. with_digits (16 * n + d) bs) (digit_of b)

-- the number that a word says: one digit or more
abbrev pub number_of : List ℕ → Option ℕ
number_of [] = None
number_of (b ∷ bs) = with_digits 0 (b ∷ bs)

-- what a digit stands for, and 0 for what is no digit
abbrev pub digit_value : ℕ → ℕ
digit_value b = unwrap_or (digit_of b) 0

-- the bytes that digits say, two digits a byte
abbrev pub bytes_in : List ℕ → List ℕ
bytes_in [] = []
bytes_in (high ∷ []) = []
bytes_in (high ∷ low ∷ rest) = (16 * digit_value high + digit_value low) ∷ bytes_in rest

-- digits and nothing else
abbrev pub are_digits : List ℕ → Bool
are_digits word = list_all (λ b. is_some (digit_of b)) word

-- the bytes that a word says: an even number of digits
abbrev pub bytes_of : List ℕ → Option (List ℕ)
bytes_of word = if are_digits word && (length word % 2 == 0) then Some (bytes_in word) else None
