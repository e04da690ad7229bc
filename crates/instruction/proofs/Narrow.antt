-- The characters of the strings that the decoder gives have at most two bytes, whatever it is answered.
use Rattle.std.proofs.Common.{◌≡◌, ℕ, ◌%◌, ◌≤◌, eqb, ltb, true, Some, None, Option, refl, arith}
use Rattle.std.specs.Option.{ok_or}
use Rattle.number.specs.declared.width.Size.{Size}
use Rattle.number.specs.declared.width.Size.TheVariants.{Byte, Halfword, Word, Doubleword}
use Rattle.number.specs.Sizes.{byte_count}
use Rattle.number.specs.Words.{bit}
use Rattle.bus.specs.declared.refusal.Refusal.{Refusal}
use Rattle.bus.specs.Program.{Program, give, ◌>>=◌, answer}
use Rattle.bus.proofs.Always.{Always, always_give, always_refuse, always_if, always_last}
use Rattle.instruction.specs.declared.operation.TwoOperation.{TwoOperation}
use Rattle.instruction.specs.declared.operation.StringOperation.{StringOperation}
use Rattle.instruction.specs.declared.opcode.Entry.{Entry}
use Rattle.instruction.specs.declared.opcode.Entry.TheVariants.{Two, One, Branch, Bsr, Rsr, Nop, Strings}
use Rattle.instruction.specs.declared.action.Action.{Action}
use Rattle.instruction.specs.declared.action.Action.TheVariants.{Two as two, One as one, Branch as branch, Bsr as bsr, Rsr as rsr, Nop as nop, Strings as strings}
use Rattle.instruction.specs.declared.part.Part.{Part}
use Rattle.instruction.specs.Opcodes.{entry}
use Rattle.instruction.specs.Formats.{register_first, register_second, two_modes, two_by, two_operands, one_operand, strings_by, string_instruction, by_entry, decode}
use Rattle.instruction.proofs.FineFormats.{entry_fine, served_fine}

abbrev pub NarrowStrings : Action → Type 0
NarrowStrings (two o s t a b) = Unit {0}
NarrowStrings (one o s a) = Unit {0}
NarrowStrings (branch k d) = Unit {0}
NarrowStrings (bsr d) = Unit {0}
NarrowStrings rsr = Unit {0}
NarrowStrings nop = Unit {0}
NarrowStrings (strings o s x y) = byte_count s ≤ 2

abbrev pub Narrow : Part Action → Type 0
Narrow d = NarrowStrings d.value

character_few : (s : Size) → ltb (byte_count s) 4 ≡ true → byte_count s ≤ 2
character_few Byte h = omega arith
character_few Halfword h = omega arith
character_few Word h = let z : ◌≡◌ {A = ℕ} 0 1 = cc in absurd (omega arith)
character_few Doubleword h = let z : ◌≡◌ {A = ℕ} 0 1 = cc in absurd (omega arith)

-- what an option has, where it is there
always_pick : {A B : Type 0} (P : B → Type 0) (o : Option A) (e : Refusal) (f : A → Program B) → ((x : A) → o ≡ Some x → Always P (f x)) → Always P (answer (ok_or o e) >>= f)
unfolding ◌>>=◌
always_pick P None e f h = always_refuse P e
always_pick P (Some x) e f h = h x refl

module _ (pc : ℕ) where
  -- after any two parts
  after_two : {A B : Type 0} (p : Program A) (q : A → Program B) (g : A → B → Part Action) → ((x : A) (y : B) → Narrow (g x y)) → Always Narrow (p >>= λ x. q x >>= λ y. give (g x y))
  after_two p q g h = always_last Narrow p _ (λ x. always_last Narrow (q x) _ (λ y. always_give Narrow (g x y) (h x y)))

  two_by_narrow : (o : TwoOperation) (s t : Size) (b : ℕ) → Always Narrow (two_by pc o s t b)
  unfolding two_by register_first register_second two_modes
  two_by_narrow o s t b =
      always_if Narrow (ltb b 128) _ _
      (λ _. always_if Narrow (bit 5 b) _ _ (λ _. after_two _ _ _ (λ _ _. tt)) (λ _. after_two _ _ _ (λ _ _. tt)))
      (λ _. always_if Narrow (eqb (b % 32) 0) _ _ (λ _. after_two _ _ _ (λ _ _. tt)) (λ _. always_refuse Narrow _))

  strings_by_narrow : (s : Size) (b : ℕ) → byte_count s ≤ 2 → (o : StringOperation) → Always Narrow (strings_by pc s b o)
  unfolding strings_by
  strings_by_narrow s b h o = after_two _ _ _ (λ _ _. h)

  entry_narrow : (e : Entry) → entry_fine e ≡ true → Always Narrow (by_entry pc e)
  unfolding by_entry two_operands one_operand string_instruction
  entry_narrow (Two o s t) h = always_last Narrow _ _ (λ b. two_by_narrow o s t b)
  entry_narrow (One o s m) h = always_last Narrow _ _ (λ x. always_give Narrow _ tt)
  entry_narrow (Branch c s) h = always_last Narrow _ _ (λ d. always_give Narrow _ tt)
  entry_narrow Bsr h = always_last Narrow _ _ (λ d. always_give Narrow _ tt)
  entry_narrow Rsr h = always_give Narrow _ tt
  entry_narrow Nop h = always_give Narrow _ tt
  entry_narrow (Strings s) h = always_last Narrow _ _ (λ b. always_last Narrow _ _ (λ o. strings_by_narrow s b (character_few s h) o))

  pub decode_narrow : Always Narrow (decode pc)
  unfolding decode
  decode_narrow = always_last Narrow _ _ (λ op. always_pick Narrow (entry op) _ _ (λ e h. entry_narrow e (served_fine op e h)))
