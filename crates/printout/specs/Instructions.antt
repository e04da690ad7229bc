-- Instructions as they are written.
use Rattle.std.specs.Prelude.{ℕ, ◌+◌, ◌%◌, ◌^◌, List, [], ◌∷◌, ◌++◌, ℤ, codes, slice_index_or}
use Rattle.std.specs.Int.{cast_unsigned, w32}
use Rattle.number.specs.declared.width.Size.{Size}
use Rattle.number.specs.Sizes.{letter}
use Rattle.instruction.specs.declared.operation.TwoOperation.{TwoOperation}
use Rattle.instruction.specs.declared.operation.TwoOperation.TheVariants.{Movs, Movz, Movea}
use Rattle.instruction.specs.declared.operation.OneOperation.{OneOperation}
use Rattle.instruction.specs.declared.operation.OneOperation.TheVariants.{Inc, Dec, Test, Push, Pop, Jmp, Jsr}
use Rattle.instruction.specs.declared.action.Action.{Action}
use Rattle.instruction.specs.declared.action.Action.TheVariants.{Two, One, Branch, Bsr, Rsr, Nop, Strings}
use Rattle.instruction.specs.Text.{two_name, one_name, string_name, operand_text, string_text, hexadecimal}

-- the letters of both sizes, of the first, or of the second
abbrev pub two_letters : TwoOperation → Size → Size → List ℕ
two_letters Movs s t = letter s ++ letter t
two_letters Movz s t = letter s ++ letter t
two_letters Movea s t = letter s
two_letters _ s t = letter t

abbrev pub two_word : TwoOperation → Size → Size → List ℕ
two_word o s t = two_name o ++ codes "." ++ two_letters o s t

-- a dot and a letter, or nothing for what works on words alone or on an address
abbrev pub one_letter : OneOperation → Size → List ℕ
one_letter Inc s = codes "." ++ letter s
one_letter Dec s = codes "." ++ letter s
one_letter Test s = codes "." ++ letter s
one_letter Push s = []
one_letter Pop s = []
one_letter Jmp s = []
one_letter Jsr s = []

abbrev pub one_word : OneOperation → Size → List ℕ
one_word o s = one_name o ++ one_letter o s

-- the branches by their conditions; the eleventh is not served
abbrev pub branches : List (List ℕ)
branches =
    codes "bv" ∷ codes "bnv" ∷ codes "bl" ∷ codes "bnl" ∷ codes "be" ∷ codes "bne" ∷ codes "bnh" ∷ codes "bh"
    ∷ codes "bn" ∷ codes "bp" ∷ codes "br" ∷ [] ∷ codes "blt" ∷ codes "bge" ∷ codes "ble" ∷ codes "bgt" ∷ []

abbrev pub branch_name : ℕ → List ℕ
branch_name c = slice_index_or branches (c % 16) []

-- the address that a branch at PC goes to
abbrev pub target : ℕ → ℤ → ℕ
target pc d = (pc + cast_unsigned w32 d) % 2 ^ 32

-- an instruction at PC
abbrev pub action_text : ℕ → Action → List ℕ
action_text pc (Two o s t x y) = two_word o s t ++ codes " " ++ operand_text x ++ codes ", " ++ operand_text y
action_text pc (One o s x) = one_word o s ++ codes " " ++ operand_text x
action_text pc (Branch c d) = branch_name c ++ codes " " ++ hexadecimal (target pc d)
action_text pc (Bsr d) = codes "bsr " ++ hexadecimal (target pc d)
action_text pc Rsr = codes "rsr"
action_text pc Nop = codes "nop"
action_text pc (Strings o s x y) = string_name o ++ codes "." ++ letter s ++ codes " " ++ string_text x ++ codes ", " ++ string_text y
