-- What the decoder gives may be made: whole instructions.
use Rattle.std.proofs.Common.{◌≡◌, ℕ, ◌+◌, ◌-◌, ◌%◌, ◌^◌, ◌<◌, ◌≤◌, Bool, true, false, cond, not, ◌&&◌, eqb, ltb, leb, List, [], ◌∷◌, ℤ, pos, negsuc, ◌-ℤ◌, is_ok, Some, None, Ok, Err, Option, sym, refl, ap, ◌∙◌, subst, inl, inr, arith}
use Rattle.std.proofs.lemmas.Int.{ints}
use Rattle.std.proofs.lemmas.Bool.{lt-ltb, le-ltb, le-leb, ltb-true, and_parts, cases_Bool, cases_lt}
use Rattle.board.specs.Block.{above}
use Rattle.number.specs.declared.width.Size.{Size}
use Rattle.number.specs.declared.width.Size.TheVariants.{Byte, Halfword, Word, Doubleword}
use Rattle.number.specs.Sizes.{byte_count}
use Rattle.number.specs.Words.{signed, fits, bit}
use Rattle.bus.specs.declared.refusal.Refusal.TheVariants.{BadLengthByte}
use Rattle.bus.specs.Buffer.{offset}
use Rattle.bus.specs.Program.{answer}
use Rattle.bus.specs.Bound.{Gives}
use Rattle.bus.specs.Wide.{fetch_number}
use Rattle.bus.proofs.Values.{values_bind, values_give, values_refuse, values_fetch, values_if}
use Rattle.instruction.specs.declared.operation.Access.TheVariants.{Address as AddressOnly}
use Rattle.instruction.specs.declared.operation.TwoOperation.{TwoOperation}
use Rattle.instruction.specs.declared.operation.OneOperation.{OneOperation}
use Rattle.instruction.specs.declared.operation.StringOperation.{StringOperation}
use Rattle.instruction.specs.declared.opcode.Entry.{Entry}
use Rattle.instruction.specs.declared.opcode.Entry.TheVariants.{Two, One, Branch, Bsr, Rsr, Nop, Strings}
use Rattle.instruction.specs.declared.operand.Operand.{Operand}
use Rattle.instruction.specs.declared.operand.Operand.TheVariants.{Register as register}
use Rattle.instruction.specs.declared.action.Action.TheVariants.{Two as two}
use Rattle.instruction.specs.declared.action.Length.{Length}
use Rattle.instruction.specs.declared.action.Length.TheVariants.{Literal, Register as InRegister}
use Rattle.instruction.specs.declared.action.Action.{Action}
use Rattle.instruction.specs.declared.action.StringOperand.{StringOperand}
use Rattle.instruction.specs.declared.part.Part.{Part}
use Rattle.instruction.specs.Operations.{first_access, second_access, one_access}
use Rattle.instruction.specs.Modes.{register_verdict}
use Rattle.instruction.specs.Opcodes.{served, look_up, entry}
use Rattle.instruction.specs.Decode.{sign_extended, displacement}
use Rattle.instruction.specs.Formats.{register_first, register_second, two_modes, two_by, two_operands, one_operand, length_of, length_at, string_at, strings_by, string_instruction, by_entry, decode}
use Rattle.instruction.specs.Lawful.{operand_named, length_named, string_named, writes, is_immediate, operand_taken, sizes_served, size_served, length_taken, lawful}
use Rattle.instruction.proofs.Fine.{Taken, operand_fine, permit_fine, not_written, above_above, values_any, values_some}

-- ==== the table serves only what may be made
abbrev pub entry_fine : Entry → Bool
entry_fine (Two o s t) = sizes_served o (byte_count s) (byte_count t)
entry_fine (One o s m) = size_served o (byte_count s)
entry_fine (Branch c s) = ltb c 16 && (not (eqb c 11) && ltb (byte_count s) 3)
entry_fine Bsr = true
entry_fine Rsr = true
entry_fine Nop = true
entry_fine (Strings s) = ltb (byte_count s) 4

abbrev every_fine : List (ℕ × Entry) → Bool
every_fine [] = true
every_fine (r ∷ rs) = entry_fine r.1 && every_fine rs

abbrev option_fine : Option Entry → Bool
option_fine None = true
option_fine (Some e) = entry_fine e

look_up_fine : (op : ℕ) (rs : List (ℕ × Entry)) → every_fine rs ≡ true → option_fine (look_up op rs) ≡ true
look_up_fine op [] h = refl
look_up_fine op (r ∷ rs) h =
    let p = and_parts (entry_fine r.1) (every_fine rs) h in
    elim (cases_Bool (eqb r.0 op)) [
      | inl e ↦ subst (λ t. option_fine (cond t (Some r.1) (look_up op rs)) ≡ true) (sym e) p.0
      | inr e ↦ subst (λ t. option_fine (cond t (Some r.1) (look_up op rs)) ≡ true) (sym e) (look_up_fine op rs p.1)
    ]

pub served_fine : (op : ℕ) (e : Entry) → entry op ≡ Some e → entry_fine e ≡ true
unfolding entry
served_fine op e h = subst (λ o. option_fine o ≡ true) h (look_up_fine op served refl)

-- ==== whole instructions
module _ (pc : ℕ) (low : pc < 2 ^ 32) where
  abbrev pub Made : Part Action → Type 0
  Made d = lawful d.value (offset pc d.next) ≡ true

  -- how far the address k above PC lies
  away : (k next : ℕ) → k < 2 ^ 32 → next ≡ above pc k → offset pc next ≡ k
  away k next h e = omega arith

  within_22 : (n : ℕ) → 1 ≤ n → n ≤ 22 → (leb 1 n && leb n 22) ≡ true
  within_22 n h l = (λ i. le-leb 1 n h i && le-leb n 22 l i)

  two_made : (o : TwoOperation) (s t : Size) → sizes_served o (byte_count s) (byte_count t) ≡ true → (x y : Operand) → operand_named x ≡ true → operand_named y ≡ true → operand_taken (first_access o) s x ≡ true → operand_taken (second_access o) t y ≡ true → (writes (second_access o) && is_immediate y) ≡ false → (k next : ℕ) → 1 ≤ k → k ≤ 22 → next ≡ above pc k → Made (record { value = two o s t x y; next = next })
  two_made o s t f x y a b c d e k next l m q =
      let n = away k next (omega arith) q in
      (λ i. (a i && b i) && (not (e i) && ((f i && (c i && d i)) && within_22 (offset pc next) (omega arith) (omega arith) i)))

  module _ (o : TwoOperation) (s t : Size) (f : sizes_served o (byte_count s) (byte_count t) ≡ true) where
    first_made : (m : Bool) (n : ℕ) → ltb n 32 ≡ true → Gives Made (register_first pc o s t m n)
    unfolding register_first
    first_made m n h =
        values_bind (λ _. is_ok (register_verdict (first_access o) s n) ≡ true) Made _ _ (permit_fine (above pc 1) (register_verdict (first_access o) s n)) (λ _ v.
        values_bind (Taken (above pc 2) t (second_access o)) Made _ _ (operand_fine (above pc 2) t (second_access o) m) (λ x q.
        values_give Made _ (two_made o s t f (register n) x.value h q.named v q.taken q.unwritten (2 + q.far) x.next (omega arith) (omega (arith, q.few)) (q.next ∙ above_above pc 2 q.far))))

    second_made : (m : Bool) (n : ℕ) → ltb n 32 ≡ true → Gives Made (register_second pc o s t m n)
    unfolding register_second
    second_made m n h =
        values_bind (λ _. is_ok (register_verdict (second_access o) t n) ≡ true) Made _ _ (permit_fine (above pc 1) (register_verdict (second_access o) t n)) (λ _ v.
        values_bind (Taken (above pc 2) s (first_access o)) Made _ _ (operand_fine (above pc 2) s (first_access o) m) (λ x q.
        values_give Made _ (two_made o s t f x.value (register n) q.named h q.taken v (not_written (second_access o)) (2 + q.far) x.next (omega arith) (omega (arith, q.few)) (q.next ∙ above_above pc 2 q.far))))

    modes_made : (m m' : Bool) → Gives Made (two_modes pc o s t m m')
    unfolding two_modes
    modes_made m m' =
        values_bind (Taken (above pc 2) s (first_access o)) Made _ _ (operand_fine (above pc 2) s (first_access o) m) (λ x q.
        values_bind (Taken x.next t (second_access o)) Made _ _ (operand_fine x.next t (second_access o) m') (λ y r.
        values_give Made _ (two_made o s t f x.value y.value q.named r.named q.taken r.taken r.unwritten (2 + q.far + r.far) y.next (omega arith) (omega (arith, q.few, r.few))
        (r.next ∙ (ap (λ z. above z r.far) (q.next ∙ above_above pc 2 q.far) ∙ above_above pc (2 + q.far) r.far)))))

    two_by_made : (b : ℕ) → Gives Made (two_by pc o s t b)
    unfolding two_by
    two_by_made b =
        let h : ltb (b % 32) 32 ≡ true = lt-ltb (b % 32) 32 (omega arith) in
        values_if Made (ltb b 128) _ _
        (λ _. values_if Made (bit 5 b) _ _ (λ _. second_made (bit 6 b) (b % 32) h) (λ _. first_made (bit 6 b) (b % 32) h))
        (λ _. values_if Made (eqb (b % 32) 0) _ _ (λ _. modes_made (bit 6 b) (bit 5 b)) (λ _. values_refuse Made _))

    two_operands_made : Gives Made (two_operands pc o s t)
    unfolding two_operands
    two_operands_made = values_bind (λ b. b < 256) Made _ _ (values_fetch (above pc 1)) (λ b _. two_by_made b)

  one_made : (o : OneOperation) (s : Size) (m : Bool) → size_served o (byte_count s) ≡ true → Gives Made (one_operand pc o s m)
  unfolding one_operand
  one_made o s m f = values_bind (Taken (above pc 1) s (one_access o)) Made _ _ (operand_fine (above pc 1) s (one_access o) m) (λ x q.
      let n = away (1 + q.far) x.next (omega (arith, q.few)) (q.next ∙ above_above pc 1 q.far) in
      values_give Made _ (λ i. q.named i && (not (q.unwritten i) && ((f i && q.taken i) && within_22 (offset pc x.next) (omega arith) (omega (arith, q.few)) i))))

  -- displacements of branches have at most 16 bits
  signed_8 : (m : ℕ) → m < 256 → fits 16 (signed 8 m) ≡ true
  signed_8 m h = elim (cases_lt m 128) [
    | inl l ↦ ap (λ t. fits 16 (cond t (pos m) (pos m -ℤ pos 256))) (lt-ltb m 128 l) ∙ lt-ltb m 32768 (omega arith)
    | inr l ↦ let e : pos m -ℤ pos 256 ≡ negsuc (255 - m) = omega (arith, ints) in ap (λ t. fits 16 (cond t (pos m) (pos m -ℤ pos 256))) (le-ltb m 128 l) ∙ (ap (fits 16) e ∙ lt-ltb (255 - m) 32768 (omega arith))
  ]

  signed_16 : (m : ℕ) → m < 65536 → fits 16 (signed 16 m) ≡ true
  signed_16 m h = elim (cases_lt m 32768) [
    | inl l ↦ ap (λ t. fits 16 (cond t (pos m) (pos m -ℤ pos 65536))) (lt-ltb m 32768 l) ∙ lt-ltb m 32768 l
    | inr l ↦ let e : pos m -ℤ pos 65536 ≡ negsuc (65535 - m) = omega (arith, ints) in ap (λ t. fits 16 (cond t (pos m) (pos m -ℤ pos 65536))) (le-ltb m 32768 l) ∙ (ap (fits 16) e ∙ lt-ltb (65535 - m) 32768 (omega arith))
  ]

  extended_fits : (s : Size) (n : ℕ) → ltb (byte_count s) 3 ≡ true → fits 16 (sign_extended s n) ≡ true
  extended_fits Byte n h = signed_8 (n % 2 ^ 8) (omega arith)
  extended_fits Halfword n h = signed_16 (n % 2 ^ 16) (omega arith)
  extended_fits Word n h = let z : ◌≡◌ {A = ℕ} 0 1 = cc in absurd (omega arith)
  extended_fits Doubleword n h = let z : ◌≡◌ {A = ℕ} 0 1 = cc in absurd (omega arith)

  -- a displacement of 16 bits at q
  record Near (q : ℕ) (s : Size) (d : Part ℤ) : Type 0 where
    fitting : fits 16 d.value ≡ true
    next : d.next ≡ above q (byte_count s)

  displacement_fits : (s : Size) (q : ℕ) → ltb (byte_count s) 3 ≡ true → Gives (Near q s) (displacement s q)
  unfolding displacement
  displacement_fits s q h = values_bind (λ _. Unit {0}) (Near q s) _ _ (values_any (fetch_number (byte_count s) q)) (λ n _. values_give (Near q s) _ (record { fitting = extended_fits s n h; next = refl }))

  branch_made : (c : ℕ) (s : Size) → (ltb c 16 && (not (eqb c 11) && ltb (byte_count s) 3)) ≡ true → Gives Made (by_entry pc (Branch c s))
  unfolding by_entry
  branch_made c s f =
      let p = and_parts (ltb c 16) (not (eqb c 11) && ltb (byte_count s) 3) f in
      let q = and_parts (not (eqb c 11)) (ltb (byte_count s) 3) p.1 in
      let l : byte_count s < 3 = ltb-true (byte_count s) 3 q.1 in
      values_bind (Near (above pc 1) s) Made _ _ (displacement_fits s (above pc 1) q.1) (λ d h.
      let n = away (1 + byte_count s) d.next (omega arith) (h.next ∙ above_above pc 1 (byte_count s)) in
      values_give Made _ (λ i. (p.0 i && (q.0 i && h.fitting i)) && within_22 (offset pc d.next) (omega arith) (omega arith) i))

  call_made : Gives Made (by_entry pc Bsr)
  unfolding by_entry
  call_made = values_bind (Near (above pc 1) Halfword) Made _ _ (displacement_fits Halfword (above pc 1) refl) (λ d h.
      let n = away 3 d.next (omega arith) (h.next ∙ above_above pc 1 2) in
      values_give Made _ (λ i. h.fitting i && within_22 (offset pc d.next) (omega arith) (omega arith) i))

  -- a string operand j bytes above PC
  record StringFine (j : ℕ) (s : Size) (x : Part StringOperand) : Type 0 where
    named : string_named x.value ≡ true
    taken : operand_taken AddressOnly s x.value.operand ≡ true
    counted : length_taken x.value.length ≡ true
    far : ℕ
    some : 1 ≤ far
    few : far ≤ 9
    place : x.value.place ≡ j + far
    next : x.next ≡ above pc (j + far + 1)

  abbrev LengthFine : Length → Type 0
  LengthFine l = (length_named l ≡ true) × (length_taken l ≡ true)

  length_of_fine : (p b : ℕ) → Gives LengthFine (answer (length_of p b))
  length_of_fine p b = elim (cases_Bool (ltb b 128)) [
    | inl e ↦ subst (λ t. Gives LengthFine (answer (cond t (Ok (Literal b)) (cond (ltb (b % 128) 32) (Ok (InRegister (b % 32))) (Err (BadLengthByte p)))))) (sym e) (values_give LengthFine (Literal b) (refl, e))
    | inr e ↦ subst (λ t. Gives LengthFine (answer (cond t (Ok (Literal b)) (cond (ltb (b % 128) 32) (Ok (InRegister (b % 32))) (Err (BadLengthByte p)))))) (sym e) (elim (cases_Bool (ltb (b % 128) 32)) [
      | inl q ↦ subst (λ t. Gives LengthFine (answer (cond t (Ok (InRegister (b % 32))) (Err (BadLengthByte p))))) (sym q) (values_give LengthFine (InRegister (b % 32)) (lt-ltb (b % 32) 32 (omega arith), refl))
      | inr q ↦ subst (λ t. Gives LengthFine (answer (cond t (Ok (InRegister (b % 32))) (Err (BadLengthByte p))))) (sym q) (values_refuse LengthFine _)
    ])
  ]

  length_fine : (p : ℕ) → Gives LengthFine (length_at p)
  unfolding length_at
  length_fine p = values_bind (λ b. b < 256) LengthFine _ _ (values_fetch p) (λ b _. length_of_fine p b)

  string_fine : (j p : ℕ) (m : Bool) (s : Size) → j ≤ 12 → p ≡ above pc j → Gives (StringFine j s) (string_at pc p m s)
  unfolding string_at
  string_fine j p m s l e =
      values_bind (Taken p s AddressOnly) (StringFine j s) _ _ (operand_fine p s AddressOnly m) (λ x q.
      values_bind LengthFine (StringFine j s) _ _ (length_fine x.next) (λ k h.
      let here : x.next ≡ above pc (j + q.far) = q.next ∙ (ap (λ z. above z q.far) e ∙ above_above pc j q.far) in
      values_give (StringFine j s) _ (record {
        named = (λ i. q.named i && h.0 i);
        taken = q.taken;
        counted = h.1;
        far = q.far;
        some = q.some;
        few = q.few;
        place = away (j + q.far) x.next (omega (arith, q.few)) here;
        next = ap (λ z. above z 1) here ∙ above_above pc (j + q.far) 1;
      })))

  strings_made : (s : Size) (b : ℕ) → ltb (byte_count s) 4 ≡ true → (o : StringOperation) → Gives Made (strings_by pc s b o)
  unfolding strings_by
  strings_made s b f o =
      values_bind (StringFine 2 s) Made _ _ (string_fine 2 (above pc 2) (bit 6 b) s (omega arith) refl) (λ x q.
      values_bind (StringFine (2 + q.far + 1) s) Made _ _ (string_fine (2 + q.far + 1) x.next (bit 5 b) s (omega (arith, q.few)) q.next) (λ y r.
      let n = away (2 + q.far + 1 + r.far + 1) y.next (omega (arith, q.few, r.few)) r.next in
      let first : ltb x.value.place (offset pc y.next) ≡ true = lt-ltb x.value.place (offset pc y.next) (omega (arith, q.place)) in
      let second : ltb y.value.place (offset pc y.next) ≡ true = lt-ltb y.value.place (offset pc y.next) (omega (arith, r.place)) in
      values_give Made _ (λ i. (q.named i && r.named i) && ((f i && ((q.taken i && (q.counted i && first i)) && (r.taken i && (r.counted i && second i)))) && within_22 (offset pc y.next) (omega arith) (omega (arith, q.few, r.few)) i))))

  string_made : (s : Size) → ltb (byte_count s) 4 ≡ true → Gives Made (string_instruction pc s)
  unfolding string_instruction
  string_made s f = values_bind (λ b. b < 256) Made _ _ (values_fetch (above pc 1)) (λ b _.
      values_bind (λ _. Unit {0}) Made _ _ (values_any _) (λ o _. strings_made s b f o))

  entry_made : (e : Entry) → entry_fine e ≡ true → Gives Made (by_entry pc e)
  unfolding by_entry
  entry_made (Two o s t) h = two_operands_made o s t h
  entry_made (One o s m) h = one_made o s m h
  entry_made (Branch c s) h = branch_made c s h
  entry_made Bsr h = call_made
  entry_made Rsr h = let n = away 1 (above pc 1) (omega arith) refl in values_give Made _ (within_22 (offset pc (above pc 1)) (omega arith) (omega arith))
  entry_made Nop h = let n = away 1 (above pc 1) (omega arith) refl in values_give Made _ (within_22 (offset pc (above pc 1)) (omega arith) (omega arith))
  entry_made (Strings s) h = string_made s h

  -- what the decoder gives may be made
  pub decoded_lawful : Gives Made (decode pc)
  unfolding decode
  decoded_lawful = values_bind (λ op. op < 256) Made _ _ (values_fetch pc) (λ op _.
      values_bind (λ e. entry_fine e ≡ true) Made _ _ (values_some (λ e. entry_fine e ≡ true) (entry op) _ (served_fine op)) (λ e h. entry_made e h))
