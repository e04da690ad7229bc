-- How many bytes the decoder fetches at the most.
use Rattle.std.proofs.Common.{◌≡◌, ℕ, ◌+◌, ◌%◌, ◌≤◌, Bool, true, eqb, ltb, Some, None, Ok, Err, Option, Result, refl, subst, arith}
use Rattle.std.proofs.lemmas.Bool.{and_parts}
use Rattle.std.specs.Option.{ok_or}
use Rattle.board.specs.Block.{above}
use Rattle.number.specs.declared.width.Size.{Size}
use Rattle.number.specs.declared.width.Size.TheVariants.{Halfword}
use Rattle.number.specs.Sizes.{byte_count}
use Rattle.number.specs.Words.{bit}
use Rattle.bus.specs.declared.refusal.Refusal.{Refusal}
use Rattle.bus.specs.Program.{Program, ◌>>=◌, answer}
use Rattle.bus.specs.Bound.{Reads}
use Rattle.bus.proofs.Room.{reads_give, reads_refuse, reads_fetch, reads_bind, reads_more, reads_if}
use Rattle.bus.proofs.WideRoom.{reads_number}
use Rattle.instruction.specs.declared.operation.Access.{Access}
use Rattle.instruction.specs.declared.operation.StringOperation.{StringOperation}
use Rattle.instruction.specs.declared.operation.TwoOperation.{TwoOperation}
use Rattle.instruction.specs.declared.operand.Base.{Base}
use Rattle.instruction.specs.declared.mode.Shape.{Shape}
use Rattle.instruction.specs.declared.mode.Shape.TheVariants.{Indirect, Displaced, Deferred}
use Rattle.instruction.specs.declared.mode.Mode.{Mode}
use Rattle.instruction.specs.declared.mode.Mode.TheVariants.{At, Quick, Immediate, Register, Increment, Decrement, Double, Index}
use Rattle.instruction.specs.declared.mode.Misfit.{Misfit}
use Rattle.instruction.specs.declared.opcode.Entry.{Entry}
use Rattle.instruction.specs.declared.opcode.Entry.TheVariants.{Two, One, Branch, Bsr, Rsr, Nop, Strings}
use Rattle.instruction.specs.Modes.{plain_mode, mode_of}
use Rattle.instruction.specs.Decode.{displacement, shape_at, judged, permit, shape_of, indexed_at, double_at, immediate_at, by_mode, operand_at}
use Rattle.instruction.specs.Formats.{register_first, register_second, two_modes, two_by, two_operands, one_operand, length_of, length_at, string_at, strings_by, string_instruction, by_entry, decode}
use Rattle.instruction.specs.Lawful.{base_named}
use Rattle.instruction.proofs.Fine.{narrow, narrow_few, fine_shape, fine_mode, Good, plain_fine, mode_fine, shape_of_fine, bytes_few}

reads_answer : {A : Type 0} (r : Result A Refusal) → Reads 0 (answer r)
reads_answer {A} (Ok x) = reads_give 0 x
reads_answer {A} (Err e) = reads_refuse A 0 e

-- one part after another
chain : {A B : Type 0} (j k n : ℕ) (p : Program A) (f : A → Program B) → j + k ≤ n → Reads j p → ((x : A) → Reads k (f x)) → Reads n (p >>= f)
chain j k n p f l h m = reads_more (j + k) n (p >>= f) l (reads_bind j k p f h m)

-- what an option has, where it is there
reads_pick : {A B : Type 0} (k : ℕ) (o : Option A) (e : Refusal) (f : A → Program B) → ((x : A) → o ≡ Some x → Reads k (f x)) → Reads k (answer (ok_or o e) >>= f)
unfolding ◌>>=◌
reads_pick k None e f h = reads_refuse _ k e
reads_pick k (Some x) e f h = h x refl

reads_displacement : (s : Size) (q : ℕ) → Reads (byte_count s) (displacement s q)
unfolding displacement
reads_displacement s q = chain (byte_count s) 0 (byte_count s) _ _ (omega arith) (reads_number (byte_count s) q) (λ n. reads_give 0 _)

reads_narrow : (s : Size) (q : ℕ) → narrow s ≡ true → Reads 4 (displacement s q)
reads_narrow s q h = reads_more (byte_count s) 4 _ (narrow_few s h) (reads_displacement s q)

reads_shape : (q : ℕ) (s : Shape) → fine_shape s ≡ true → Reads 4 (shape_at q s)
unfolding shape_at
reads_shape q (Indirect n) h = reads_give 4 _
reads_shape q (Displaced b s) h = chain 4 0 4 _ _ (omega arith) (reads_narrow s q (and_parts (base_named b) (narrow s) h).1) (λ d. reads_give 0 _)
reads_shape q (Deferred b s) h = chain 4 0 4 _ _ (omega arith) (reads_narrow s q (and_parts (base_named b) (narrow s) h).1) (λ d. reads_give 0 _)

reads_permit : (p : ℕ) (v : Result (Unit {0}) Misfit) → Reads 0 (permit p v)
unfolding permit
reads_permit p v = reads_answer (judged p v)

module _ (p : ℕ) (s : Size) (a : Access) where
  reads_index : (x : ℕ) → Reads 8 (indexed_at p x)
  unfolding indexed_at
  reads_index x = chain 1 4 8 _ _ (omega arith) (reads_fetch (above p 1)) (λ b. reads_pick 4 (shape_of (plain_mode b)) _ _ (λ t e. chain 4 0 4 _ _ (omega arith) (reads_shape (above p 2) t (shape_of_fine (plain_mode b) (plain_fine b) t e)) (λ l. reads_give 0 _)))

  reads_double : (b : Base) (t : Size) → narrow t ≡ true → Reads 8 (double_at p b t)
  unfolding double_at
  reads_double b t h = chain 4 4 8 _ _ (omega arith) (reads_narrow t (above p 1) h) (λ i. chain 4 0 4 _ _ (omega arith) (reads_narrow t _ h) (λ o. reads_give 0 _))

  reads_immediate : Reads 8 (immediate_at p s)
  unfolding immediate_at
  reads_immediate = chain (byte_count s) 0 8 _ _ (omega (arith, bytes_few s)) (reads_number (byte_count s) (above p 1)) (λ n. reads_give 0 _)

  reads_by_mode : (m : Mode) → fine_mode m ≡ true → Reads 8 (by_mode p s a m)
  unfolding by_mode
  reads_by_mode (At t) h = chain 4 0 8 _ _ (omega arith) (reads_shape (above p 1) t h) (λ l. reads_give 0 _)
  reads_by_mode (Quick v) h = chain 0 0 8 _ _ (omega arith) (reads_permit p _) (λ _. reads_give 0 _)
  reads_by_mode Immediate h = chain 0 8 8 _ _ (omega arith) (reads_permit p _) (λ _. reads_immediate)
  reads_by_mode (Register n) h = chain 0 0 8 _ _ (omega arith) (reads_permit p _) (λ _. reads_give 0 _)
  reads_by_mode (Increment n) h = reads_give 8 _
  reads_by_mode (Decrement n) h = reads_give 8 _
  reads_by_mode (Double b t) h = reads_double b t (and_parts (base_named b) (narrow t) h).1
  reads_by_mode (Index x) h = reads_index x

  reads_operand : (m : Bool) → Reads 9 (operand_at p m s a)
  unfolding operand_at
  reads_operand m = chain 1 8 9 _ _ (omega arith) (reads_fetch p) (λ b. reads_pick 8 (mode_of m b) _ _ (λ k e. reads_by_mode k (subst Good e (mode_fine m b))))

module _ (pc : ℕ) where
  reads_two_by : (o : TwoOperation) (s t : Size) (b : ℕ) → Reads 18 (two_by pc o s t b)
  unfolding two_by register_first register_second two_modes
  reads_two_by o s t b =
      reads_if 18 (ltb b 128) _ _
      (λ _. reads_if 18 (bit 5 b) _ _
      (λ _. chain 0 9 18 _ _ (omega arith) (reads_permit (above pc 1) _) (λ _. chain 9 0 9 _ _ (omega arith) (reads_operand (above pc 2) s _ (bit 6 b)) (λ x. reads_give 0 _)))
      (λ _. chain 0 9 18 _ _ (omega arith) (reads_permit (above pc 1) _) (λ _. chain 9 0 9 _ _ (omega arith) (reads_operand (above pc 2) t _ (bit 6 b)) (λ x. reads_give 0 _))))
      (λ _. reads_if 18 (eqb (b % 32) 0) _ _
      (λ _. chain 9 9 18 _ _ (omega arith) (reads_operand (above pc 2) s _ (bit 6 b)) (λ x. chain 9 0 9 _ _ (omega arith) (reads_operand x.next t _ (bit 5 b)) (λ y. reads_give 0 _)))
      (λ _. reads_refuse _ 18 _))

  reads_length : (p : ℕ) → Reads 1 (length_at p)
  unfolding length_at
  reads_length p = chain 1 0 1 _ _ (omega arith) (reads_fetch p) (λ b. reads_answer (length_of p b))

  reads_string : (p : ℕ) (m : Bool) (s : Size) → Reads 10 (string_at pc p m s)
  unfolding string_at
  reads_string p m s = chain 9 1 10 _ _ (omega arith) (reads_operand p s _ m) (λ x. chain 1 0 1 _ _ (omega arith) (reads_length x.next) (λ l. reads_give 0 _))

  reads_strings_by : (s : Size) (b : ℕ) (o : StringOperation) → Reads 20 (strings_by pc s b o)
  unfolding strings_by
  reads_strings_by s b o = chain 10 10 20 _ _ (omega arith) (reads_string (above pc 2) (bit 6 b) s) (λ x. chain 10 0 10 _ _ (omega arith) (reads_string x.next (bit 5 b) s) (λ y. reads_give 0 _))

  reads_entry : (e : Entry) → Reads 21 (by_entry pc e)
  unfolding by_entry two_operands one_operand string_instruction
  reads_entry (Two o s t) = chain 1 18 21 _ _ (omega arith) (reads_fetch (above pc 1)) (λ b. reads_two_by o s t b)
  reads_entry (One o s m) = chain 9 0 21 _ _ (omega arith) (reads_operand (above pc 1) s _ m) (λ x. reads_give 0 _)
  reads_entry (Branch c s) = chain (byte_count s) 0 21 _ _ (omega (arith, bytes_few s)) (reads_displacement s (above pc 1)) (λ d. reads_give 0 _)
  reads_entry Bsr = chain 2 0 21 _ _ (omega arith) (reads_displacement Halfword (above pc 1)) (λ d. reads_give 0 _)
  reads_entry Rsr = reads_give 21 _
  reads_entry Nop = reads_give 21 _
  reads_entry (Strings s) = chain 1 20 21 _ _ (omega arith) (reads_fetch (above pc 1)) (λ b. chain 0 20 20 _ _ (omega arith) (reads_answer _) (λ o. reads_strings_by s b o))

  pub reads_decode : Reads 22 (decode pc)
  unfolding decode
  reads_decode = chain 1 21 22 _ _ (omega arith) (reads_fetch pc) (λ op. chain 0 21 21 _ _ (omega arith) (reads_answer _) (λ e. reads_entry e))
