-- The served opcodes.
use Rattle.std.specs.Prelude.{ℕ, ◌+◌, true, false, cond, List, [], ◌∷◌, ◌++◌, Some, None, Option, ◌==◌}
use Rattle.number.specs.declared.width.Size.{Size}
use Rattle.number.specs.declared.width.Size.TheVariants.{Byte, Halfword, Word, Doubleword}
use Rattle.instruction.specs.declared.operation.TwoOperation.TheVariants.{Mov, Movs, Movz, Movea, Add, Addc, Sub, Subc, Cmp, Neg, And, Or, Xor, Not, Shl, Sha, Rot}
use Rattle.instruction.specs.declared.operation.OneOperation.{OneOperation}
use Rattle.instruction.specs.declared.operation.OneOperation.TheVariants.{Inc, Dec, Test, Push, Pop, Jmp, Jsr}
use Rattle.instruction.specs.declared.opcode.Entry.{Entry}
use Rattle.instruction.specs.declared.opcode.Entry.TheVariants.{Two, One, Branch, Bsr, Rsr, Nop, Strings}

-- opcodes of an operation at the three arithmetic widths: base for bytes, 2 more for halfwords, 4 more for words
abbrev pub widths : ℕ → (Size → Entry) → List (ℕ × Entry)
widths base f = (base, f Byte) ∷ (base + 2, f Halfword) ∷ (base + 4, f Word) ∷ []

-- both opcodes of an instruction of one operand: bit 0 is the bit m of its mode
abbrev pub modes : ℕ → OneOperation → Size → List (ℕ × Entry)
modes base o s = (base, One o s false) ∷ (base + 1, One o s true) ∷ []

-- the branches with a displacement of that size: bits 0 to 3 are the condition, and 11 is not served
abbrev pub branches : ℕ → Size → List ℕ → List (ℕ × Entry)
branches base s [] = []
branches base s (c ∷ cs) = (base + c, Branch c s) ∷ branches base s cs

abbrev pub conditions : List ℕ
conditions = 0 ∷ 1 ∷ 2 ∷ 3 ∷ 4 ∷ 5 ∷ 6 ∷ 7 ∷ 8 ∷ 9 ∷ 10 ∷ 12 ∷ 13 ∷ 14 ∷ 15 ∷ []

abbrev pub all_of : List (List (ℕ × Entry)) → List (ℕ × Entry)
all_of [] = []
all_of (xs ∷ xss) = xs ++ all_of xss

-- every served opcode with what it stands for
abbrev pub served : List (ℕ × Entry)
served = all_of (
    ((0x09, Two Mov Byte Byte) ∷ (0x1b, Two Mov Halfword Halfword) ∷ (0x2d, Two Mov Word Word) ∷ (0x3f, Two Mov Doubleword Doubleword) ∷ [])
    ∷ ((0x0a, Two Movs Byte Halfword) ∷ (0x0c, Two Movs Byte Word) ∷ (0x1c, Two Movs Halfword Word) ∷ [])
    ∷ ((0x0b, Two Movz Byte Halfword) ∷ (0x0d, Two Movz Byte Word) ∷ (0x1d, Two Movz Halfword Word) ∷ [])
    ∷ widths 0x40 (λ s. Two Movea s Word)
    ∷ widths 0x80 (λ s. Two Add s s) ∷ widths 0x90 (λ s. Two Addc s s) ∷ widths 0xa8 (λ s. Two Sub s s) ∷ widths 0x98 (λ s. Two Subc s s)
    ∷ widths 0xb8 (λ s. Two Cmp s s) ∷ widths 0x39 (λ s. Two Neg s s)
    ∷ widths 0xa0 (λ s. Two And s s) ∷ widths 0x88 (λ s. Two Or s s) ∷ widths 0xb0 (λ s. Two Xor s s) ∷ widths 0x38 (λ s. Two Not s s)
    ∷ widths 0xa9 (λ s. Two Shl Byte s) ∷ widths 0xb9 (λ s. Two Sha Byte s) ∷ widths 0x89 (λ s. Two Rot Byte s)
    ∷ modes 0xd8 Inc Byte ∷ modes 0xda Inc Halfword ∷ modes 0xdc Inc Word
    ∷ modes 0xd0 Dec Byte ∷ modes 0xd2 Dec Halfword ∷ modes 0xd4 Dec Word
    ∷ modes 0xf0 Test Byte ∷ modes 0xf2 Test Halfword ∷ modes 0xf4 Test Word
    ∷ modes 0xd6 Jmp Byte ∷ modes 0xe8 Jsr Byte ∷ modes 0xee Push Word ∷ modes 0xe6 Pop Word
    ∷ branches 0x60 Byte conditions ∷ branches 0x70 Halfword conditions
    ∷ ((0x48, Bsr) ∷ (0xca, Rsr) ∷ (0xcd, Nop) ∷ (0x58, Strings Byte) ∷ (0x5a, Strings Halfword) ∷ [])
    ∷ [])

-- the entry of an opcode in a list of them
abbrev pub look_up : ℕ → List (ℕ × Entry) → Option Entry
look_up op [] = None
look_up op (r ∷ rs) = cond (r.0 == op) (Some r.1) (look_up op rs)

-- what an opcode byte stands for, where it is served
unfoldable pub entry : ℕ → Option Entry
entry op = look_up op served
