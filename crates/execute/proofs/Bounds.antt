-- How much of memory a step looks at and sets.
use Prim.Native.Nat.{ℕ, ◌≤◌}
use native.Mathlib.Omega.{arith}
use Rattle.number.specs.declared.width.Size.{Size}
use Rattle.number.specs.declared.width.Size.TheVariants.{Byte, Halfword, Word, Doubleword}
use Rattle.number.specs.Sizes.{byte_count}
use Rattle.bus.specs.Bound.{Reads, Bounded}
use Rattle.bus.proofs.Room.{reads_give, reads_more, reads_end}
use Rattle.bus.proofs.WideRoom.{reads_number}
use Rattle.bus.proofs.Enough.{Enough, enough_bounded, enough_more, enough_reads, enough_after, enough_known, enough_end, enough_stored}
use Rattle.instruction.specs.declared.operation.Access.{Access}
use Rattle.instruction.specs.declared.operation.Access.TheVariants.{Read, Write, Modify, Address as AddressOnly}
use Rattle.instruction.specs.declared.operation.TwoOperation.{TwoOperation}
use Rattle.instruction.specs.declared.operation.OneOperation.{OneOperation}
use Rattle.instruction.specs.declared.operation.OneOperation.TheVariants.{Inc, Dec, Test, Push, Pop, Jmp, Jsr}
use Rattle.instruction.specs.declared.operation.StringOperation.{StringOperation}
use Rattle.instruction.specs.declared.operand.Address.{Address}
use Rattle.instruction.specs.declared.operand.Address.TheVariants.{Indirect, Displaced, Deferred}
use Rattle.instruction.specs.declared.operand.Operand.{Operand}
use Rattle.instruction.specs.declared.operand.Operand.TheVariants.{Register, Immediate, Memory, Indexed, Double, Increment, Decrement}
use Rattle.instruction.specs.declared.action.Action.{Action}
use Rattle.instruction.specs.declared.action.Action.TheVariants.{Two, One, Branch, Bsr, Rsr, Nop, Strings}
use Rattle.instruction.specs.declared.action.StringOperand.{StringOperand}
use Rattle.instruction.specs.Operations.{first_access, second_access, one_access}
use Rattle.instruction.proofs.Fetches.{reads_decode}
use Rattle.instruction.proofs.Narrow.{NarrowStrings, Narrow, decode_narrow}
use Rattle.processor.specs.declared.cpu.Cpu.{Cpu}
use Rattle.processor.specs.declared.operand.Location.{Location}
use Rattle.processor.specs.declared.operand.Location.TheVariants.{InRegister, Constant, InMemory}
use Rattle.processor.specs.Operands.{below, address_of, locate, read_at, write_at, location_address}
use Rattle.execute.specs.Two.{taken, left, two_operands}
use Rattle.execute.specs.One.{stack, pushed, popped, altering, pushing, popping, jumping, calling, calling_relative, returning}
use Rattle.strings.specs.Strings.{string_instruction}
use Rattle.execute.specs.Execute.{one_operand, acted}
use Rattle.execute.specs.Step.{one_step}
use Rattle.strings.proofs.StringBounds.{reads_counted, counted_few, worked_enough}

-- ==== operands

bytes_few : (s : Size) → byte_count s ≤ 8
bytes_few Byte = omega arith
bytes_few Halfword = omega arith
bytes_few Word = omega arith
bytes_few Doubleword = omega arith

reads_address : (c : Cpu) (a : Address) → Reads 4 (address_of c a)
unfolding address_of
reads_address c (Indirect n) = reads_give 4 _
reads_address c (Displaced b d) = reads_give 4 _
reads_address c (Deferred b d) = reads_number 4 _

reads_locate : (c : Cpu) (k : ℕ) (x : Operand) → Reads 4 (locate c k x)
unfolding locate
reads_locate c k (Register n) = reads_give 4 _
reads_locate c k (Immediate v) = reads_give 4 _
reads_locate c k (Memory a) = reads_end 4 _ _ (reads_address c a)
reads_locate c k (Indexed a i) = reads_end 4 _ _ (reads_address c a)
reads_locate c k (Double b inner outer) = reads_end 4 _ _ (reads_number 4 _)
reads_locate c k (Increment n) = reads_give 4 _
reads_locate c k (Decrement n) = reads_give 4 _

reads_at : (c : Cpu) (s : Size) (l : Location) → Reads 8 (read_at c s l)
unfolding read_at
reads_at c s (InRegister n) = reads_give 8 _
reads_at c s (Constant v) = reads_give 8 _
reads_at c s (InMemory a) = reads_more (byte_count s) 8 _ (bytes_few s) (reads_number (byte_count s) a)

reads_taken : (c : Cpu) (s : Size) (l : Location) (a : Access) → Reads 8 (taken c s l a)
unfolding taken
reads_taken c s l Read = reads_at c s l
reads_taken c s l Modify = reads_at c s l
reads_taken c s l Write = reads_give 8 _
reads_taken c s l AddressOnly = reads_give 8 _

write_enough : (c : Cpu) (s : Size) (l : Location) (v : ℕ) → Enough 0 (write_at c s l v)
unfolding write_at
write_enough c s (InRegister n) v = enough_reads 0 _ (reads_give 0 _)
write_enough c s (Constant x) v = enough_reads 0 _ (reads_give 0 _)
write_enough c s (InMemory a) v = enough_stored (byte_count s) a v c (omega (arith, bytes_few s))

left_enough : (c : Cpu) (s : Size) (l : Location) (a : Access) (v : ℕ) → Enough 0 (left c s l a v)
unfolding left
left_enough c s l Read v = enough_reads 0 _ (reads_give 0 _)
left_enough c s l Modify v = write_enough c s l v
left_enough c s l Write v = write_enough c s l v
left_enough c s l AddressOnly v = enough_reads 0 _ (reads_give 0 _)

pushed_enough : (c : Cpu) (v : ℕ) → Enough 0 (pushed c v)
unfolding pushed
pushed_enough c v = enough_stored 4 (below (stack c) 4) v _ (omega arith)

reads_popped : (c : Cpu) → Reads 4 (popped c)
unfolding popped
reads_popped c = reads_end 4 _ _ (reads_number 4 (stack c))

-- ==== instructions

two_enough : (c : Cpu) (o : TwoOperation) (s t : Size) (a b : Operand) (next : ℕ) → Enough 24 (two_operands c o s t a b next)
unfolding two_operands
two_enough c o s t a b next =
    enough_after 4 20 24 _ _ (omega arith) (reads_locate c (byte_count s) a) (λ p.
    enough_after 8 12 20 _ _ (omega arith) (reads_taken p.cpu s p.location (first_access o)) (λ x.
    enough_after 4 8 12 _ _ (omega arith) (reads_locate p.cpu (byte_count t) b) (λ q.
    enough_after 8 0 8 _ _ (omega arith) (reads_taken q.cpu t q.location (second_access o)) (λ y.
    enough_end 0 _ _ (left_enough q.cpu t q.location (second_access o) _)))))

altering_enough : (c : Cpu) (o : OneOperation) (s : Size) (a : Operand) (next : ℕ) → Enough 12 (altering c o s a next)
unfolding altering
altering_enough c o s a next =
    enough_after 4 8 12 _ _ (omega arith) (reads_locate c (byte_count s) a) (λ p.
    enough_after 8 0 8 _ _ (omega arith) (reads_taken p.cpu s p.location (one_access o)) (λ x.
    enough_end 0 _ _ (left_enough p.cpu s p.location (one_access o) _)))

one_enough : (c : Cpu) (o : OneOperation) (s : Size) (a : Operand) (next : ℕ) → Enough 12 (one_operand c o s a next)
unfolding one_operand pushing popping jumping calling
one_enough c Inc s a next = altering_enough c Inc s a next
one_enough c Dec s a next = altering_enough c Dec s a next
one_enough c Test s a next = altering_enough c Test s a next
one_enough c Push s a next =
    enough_after 4 8 12 _ _ (omega arith) (reads_locate c 4 a) (λ p.
    enough_after 8 0 8 _ _ (omega arith) (reads_at p.cpu Word p.location) (λ x. enough_end 0 _ _ (pushed_enough p.cpu x)))
one_enough c Pop s a next =
    enough_after 4 8 12 _ _ (omega arith) (reads_popped c) (λ t.
    enough_after 4 0 8 _ _ (omega arith) (reads_locate t.0 4 a) (λ p. enough_end 0 _ _ (write_enough p.cpu Word p.location t.1)))
one_enough c Jmp s a next = enough_reads 12 _ (reads_more 4 12 _ (omega arith) (reads_end 4 _ _ (reads_locate c 1 a)))
one_enough c Jsr s a next = enough_after 4 0 12 _ _ (omega arith) (reads_locate c 1 a) (λ p. enough_end 0 _ _ (pushed_enough p.cpu next))

string_enough : (c : Cpu) (o : StringOperation) (s : Size) (x y : StringOperand) (next : ℕ) → byte_count s ≤ 2 → Enough 264 (string_instruction c o s x y next)
unfolding string_instruction
string_enough c o s x y next h =
    enough_known 0 264 264 _ _ _ (omega arith) (reads_counted c x) (counted_few c x) (λ m f.
    enough_known 0 264 264 _ _ _ (omega arith) (reads_counted c y) (counted_few c y) (λ n g.
    enough_after 4 260 264 _ _ (omega arith) (reads_locate c (byte_count s) x.operand) (λ p.
    enough_after 4 256 260 _ _ (omega arith) (reads_locate p.cpu (byte_count s) y.operand) (λ q.
    worked_enough q.cpu s (location_address p.location) (location_address q.location) h o m n next f g))))

acted_enough : (c : Cpu) (a : Action) (next : ℕ) → NarrowStrings a → Enough 264 (acted c a next)
unfolding acted calling_relative returning
acted_enough c (Two o s t a b) next h = enough_more 24 264 _ (omega arith) (two_enough c o s t a b next)
acted_enough c (One o s a) next h = enough_more 12 264 _ (omega arith) (one_enough c o s a next)
acted_enough c (Branch k d) next h = enough_reads 264 _ (reads_give 264 _)
acted_enough c (Bsr d) next h = enough_more 0 264 _ (omega arith) (enough_end 0 _ _ (pushed_enough c next))
acted_enough c Rsr next h = enough_more 4 264 _ (omega arith) (enough_reads 4 _ (reads_end 4 _ _ (reads_popped c)))
acted_enough c Nop next h = enough_reads 264 _ (reads_give 264 _)
acted_enough c (Strings o s x y) next h = string_enough c o s x y next h

-- 22 bytes of code, two pointers of 4, and 128 characters of 2 are 286
pub step_bounded : (c : Cpu) → Bounded 300 (one_step c)
unfolding one_step
step_bounded c = enough_bounded 286 300 _ (omega arith) (enough_known 22 264 286 Narrow _ _ (omega arith) (reads_decode c.pc) (decode_narrow c.pc) (λ d h. acted_enough c d.value d.next h))
