-- What the decoder gives may be made: operands.
use Rattle.std.proofs.Common.{◌≡◌, ℕ, zero, suc, ◌+◌, ◌-◌, ◌/◌, ◌%◌, ◌^◌, ◌<◌, ◌≤◌, Bool, true, false, cond, ◌&&◌, ltb, List, [], ◌∷◌, get_or, is_ok, Some, None, Ok, Err, Option, Result, sym, refl, ap, ◌∙◌, subst, inl, inr, lt_of_le_of_lt, arith}
use native.Mathlib.Nat.{mod-le}
use Rattle.std.proofs.lemmas.Bool.{lt-ltb, ltb-true, and_parts, cases_Bool}
use Rattle.std.specs.Option.{ok_or}
use Rattle.board.specs.Block.{above}
use Rattle.number.specs.declared.width.Size.{Size}
use Rattle.number.specs.declared.width.Size.TheVariants.{Byte, Halfword, Word, Doubleword}
use Rattle.number.specs.Sizes.{byte_count}
use Rattle.bus.specs.Sheets.{All}
use Rattle.bus.specs.declared.refusal.Refusal.{Refusal}
use Rattle.bus.specs.Program.{Program, give, refuse, fetch, ask, put, answer}
use Rattle.bus.specs.Wide.{fetch_number}
use Rattle.bus.specs.Bound.{Gives}
use Rattle.bus.proofs.Values.{values_bind, values_give, values_refuse, values_fetch, values_number}
use Rattle.instruction.specs.declared.operation.Access.{Access}
use Rattle.instruction.specs.declared.operation.Access.TheVariants.{Read, Write, Modify, Address as AddressOnly}
use Rattle.instruction.specs.declared.operand.Base.{Base}
use Rattle.instruction.specs.declared.mode.Shape.{Shape}
use Rattle.instruction.specs.declared.mode.Shape.TheVariants.{Indirect, Displaced, Deferred}
use Rattle.instruction.specs.declared.mode.Mode.{Mode}
use Rattle.instruction.specs.declared.mode.Mode.TheVariants.{At, Quick, Immediate, Register, Increment, Decrement, Double, Index}
use Rattle.instruction.specs.declared.mode.Misfit.{Misfit}
use Rattle.instruction.specs.declared.operand.Address.{Address}
use Rattle.instruction.specs.declared.operand.Operand.{Operand}
use Rattle.instruction.specs.declared.part.Part.{Part}
use Rattle.instruction.specs.Modes.{list, listed_mode, plain_modes, plain_mode, register_modes, register_mode, mode_of, immediate_verdict, register_verdict}
use Rattle.instruction.specs.Decode.{displacement, shape_at, permit, shape_of, indexed_at, double_at, immediate_at, by_mode, operand_at}
use Rattle.instruction.specs.Lawful.{base_named, address_named, operand_named, writes, is_immediate, operand_taken}

-- ==== modes

-- the registers of a shape are below 32, and its displacement has at most 4 bytes
abbrev pub narrow : Size → Bool
narrow s = ltb (byte_count s) 5

abbrev pub fine_shape : Shape → Bool
fine_shape (Indirect n) = ltb n 32
fine_shape (Displaced b s) = base_named b && narrow s
fine_shape (Deferred b s) = base_named b && narrow s

abbrev pub fine_mode : Mode → Bool
fine_mode (At s) = fine_shape s
fine_mode (Quick v) = ltb v 16
fine_mode Immediate = true
fine_mode (Register n) = ltb n 32
fine_mode (Increment n) = ltb n 32
fine_mode (Decrement n) = ltb n 32
fine_mode (Double b s) = base_named b && narrow s
fine_mode (Index n) = ltb n 32

abbrev pub fine_option : Option Mode → Bool
fine_option None = true
fine_option (Some m) = fine_mode m

all_get_d : {X : Type 0} (P : X → Type 0) (xs : List X) (k : ℕ) (d : X) → All P xs → P d → P (get_or xs k d)
all_get_d P [] k d h q = q
all_get_d P (x ∷ xs) zero d h q = h.0
all_get_d P (x ∷ xs) (suc k) d h q = all_get_d P xs k d h.1 q

abbrev pub Good : Option Mode → Type 0
Good m = fine_option m ≡ true

listed_fine : (n : ℕ) → Good (listed_mode n)
listed_fine n = elim (cases_Bool (ltb n 16)) [
  | inl e ↦ subst (λ t. Good (cond t (Some (Quick n)) (get_or list (n - 16) None))) (sym e) e
  | inr e ↦ subst (λ t. Good (cond t (Some (Quick n)) (get_or list (n - 16) None))) (sym e) (all_get_d Good list (n - 16) None (refl, (refl, (refl, (refl, (refl, (refl, (refl, (refl, (refl, (refl, (refl, (refl, (refl, (refl, (refl, (refl, tt)))))))))))))))) refl)
]

pub plain_fine : (b : ℕ) → Good (plain_mode b)
plain_fine b =
    let h : ltb (b % 32) 32 ≡ true = lt-ltb (b % 32) 32 (omega arith) in
    let w : (ltb (b % 32) 32 && true) ≡ true = ap (λ t. t && true) h in
    all_get_d Good (plain_modes (b % 32)) (b / 32) None (w, (w, (w, (h, (w, (w, (w, (listed_fine (b % 32), tt)))))))) refl

register_fine : (b : ℕ) → Good (register_mode b)
register_fine b =
    let h : ltb (b % 32) 32 ≡ true = lt-ltb (b % 32) 32 (omega arith) in
    let w : (ltb (b % 32) 32 && true) ≡ true = ap (λ t. t && true) h in
    all_get_d Good (register_modes (b % 32)) (b / 32) None (w, (w, (w, (h, (h, (h, (h, (refl, tt)))))))) refl

pub mode_fine : (m : Bool) (b : ℕ) → Good (mode_of m b)
mode_fine false b = plain_fine b
mode_fine true b = register_fine b

-- ==== values

pub values_any : {A : Type 0} (p : Program A) → Gives (λ _. Unit {0}) p
unfolding Gives
values_any (give x) = tt
values_any (refuse e) = tt
values_any (fetch a k) = λ b _. values_any (k b)
values_any (ask a k) = values_any k
values_any (put a b k) = values_any k

-- an option that has to be there
pub values_some : {A : Type 0} (P : A → Type 0) (o : Option A) (e : Refusal) → ((x : A) → o ≡ Some x → P x) → Gives P (answer (ok_or o e))
values_some P None e h = values_refuse P e
values_some P (Some x) e h = values_give P x (h x refl)

-- the address n above the address k above p
pub above_above : (p k n : ℕ) → above (above p k) n ≡ above p (k + n)
above_above p k n = omega arith

-- where the code goes on after a displacement
pub displacement_next : (s : Size) (q : ℕ) → Gives (λ d. d.next ≡ above q (byte_count s)) (displacement s q)
unfolding displacement
displacement_next s q = values_bind (λ _. Unit {0}) _ _ _ (values_any (fetch_number (byte_count s) q)) (λ n _. values_give _ _ refl)

-- an address with its next byte at most 4 after q
pub record Reached (q : ℕ) (l : Part Address) : Type 0 where
  pub named : address_named l.value ≡ true
  pub far : ℕ
  pub few : far ≤ 4
  pub next : l.next ≡ above q far

pub narrow_few : (s : Size) → narrow s ≡ true → byte_count s ≤ 4
narrow_few s h = omega (arith, ltb-true (byte_count s) 5 h)

shape_fine : (q : ℕ) (s : Shape) → q < 2 ^ 32 → fine_shape s ≡ true → Gives (Reached q) (shape_at q s)
unfolding shape_at
shape_fine q (Indirect n) l h = values_give _ _ (record { named = h; far = 0; few = omega arith; next = omega arith })
shape_fine q (Displaced b s) l h = let p = and_parts (base_named b) (narrow s) h in values_bind (λ d. d.next ≡ above q (byte_count s)) _ _ _ (displacement_next s q) (λ d n. values_give _ _ (record { named = p.0; far = byte_count s; few = narrow_few s p.1; next = n }))
shape_fine q (Deferred b s) l h = let p = and_parts (base_named b) (narrow s) h in values_bind (λ d. d.next ≡ above q (byte_count s)) _ _ _ (displacement_next s q) (λ d n. values_give _ _ (record { named = p.0; far = byte_count s; few = narrow_few s p.1; next = n }))

-- an operand at p that an instruction takes, with its next byte at most 9 after p
pub record Taken (p : ℕ) (s : Size) (a : Access) (x : Part Operand) : Type 0 where
  pub named : operand_named x.value ≡ true
  pub taken : operand_taken a s x.value ≡ true
  pub unwritten : (writes a && is_immediate x.value) ≡ false
  pub far : ℕ
  pub some : 1 ≤ far
  pub few : far ≤ 9
  pub next : x.next ≡ above p far

pub permit_fine : (p : ℕ) (v : Result (Unit {0}) Misfit) → Gives (λ _. is_ok v ≡ true) (permit p v)
unfolding permit
permit_fine p (Ok u) = values_give _ u refl
permit_fine p (Err m) = values_refuse _ _

-- no write
pub not_written : (a : Access) → (writes a && false) ≡ false
not_written Read = refl
not_written Write = refl
not_written Modify = refl
not_written AddressOnly = refl

-- where an immediate is permitted, it is not written
read_only : (a : Access) (s : Size) → is_ok (immediate_verdict a s) ≡ true → (writes a && true) ≡ false
read_only Read s h = refl
read_only Write s h = let z : ◌≡◌ {A = ℕ} 0 1 = cc in absurd (omega arith)
read_only Modify s h = let z : ◌≡◌ {A = ℕ} 0 1 = cc in absurd (omega arith)
read_only AddressOnly s h = refl

pub bytes_few : (s : Size) → byte_count s ≤ 8
bytes_few Byte = omega arith
bytes_few Halfword = omega arith
bytes_few Word = omega arith
bytes_few Doubleword = omega arith

quick_below : (s : Size) (v : ℕ) → v < 16 → v < 256 ^ byte_count s
quick_below Byte v h = omega arith
quick_below Halfword v h = omega arith
quick_below Word v h = omega arith
quick_below Doubleword v h = omega arith

pub shape_of_fine : (m : Option Mode) → Good m → (t : Shape) → shape_of m ≡ Some t → fine_shape t ≡ true
shape_of_fine None h t e = let z : ◌≡◌ {A = ℕ} 0 1 = cc in absurd (omega arith)
shape_of_fine (Some (At s)) h t e = let q : s ≡ t = cc in subst (λ z. fine_shape z ≡ true) q h
shape_of_fine (Some (Quick v)) h t e = let z : ◌≡◌ {A = ℕ} 0 1 = cc in absurd (omega arith)
shape_of_fine (Some Immediate) h t e = let z : ◌≡◌ {A = ℕ} 0 1 = cc in absurd (omega arith)
shape_of_fine (Some (Register n)) h t e = let z : ◌≡◌ {A = ℕ} 0 1 = cc in absurd (omega arith)
shape_of_fine (Some (Increment n)) h t e = let z : ◌≡◌ {A = ℕ} 0 1 = cc in absurd (omega arith)
shape_of_fine (Some (Decrement n)) h t e = let z : ◌≡◌ {A = ℕ} 0 1 = cc in absurd (omega arith)
shape_of_fine (Some (Double b s)) h t e = let z : ◌≡◌ {A = ℕ} 0 1 = cc in absurd (omega arith)
shape_of_fine (Some (Index n)) h t e = let z : ◌≡◌ {A = ℕ} 0 1 = cc in absurd (omega arith)

module _ (p : ℕ) (s : Size) (a : Access) where
  immediate_fine : is_ok (immediate_verdict a s) ≡ true → Gives (Taken p s a) (immediate_at p s)
  unfolding immediate_at
  immediate_fine q = values_bind (λ n. n < 256 ^ byte_count s) (Taken p s a) _ _ (values_number (byte_count s) (above p 1)) (λ n h. values_give (Taken p s a) _ (record {
    named = refl;
    taken = (λ i. q i && lt-ltb (n % 2 ^ 32) (256 ^ byte_count s) (lt_of_le_of_lt (mod-le n (2 ^ 32)) h) i);
    unwritten = read_only a s q;
    far = 1 + byte_count s;
    some = omega arith;
    few = omega (arith, bytes_few s);
    next = above_above p 1 (byte_count s);
  }))

  double_fine : (b : Base) (t : Size) → (base_named b && narrow t) ≡ true → Gives (Taken p s a) (double_at p b t)
  unfolding double_at
  double_fine b t h =
      let q = and_parts (base_named b) (narrow t) h in
      let n = byte_count t in
      values_bind (λ d. d.next ≡ above (above p 1) n) (Taken p s a) _ _ (displacement_next t (above p 1)) (λ i e.
      values_bind (λ d. d.next ≡ above i.next n) (Taken p s a) _ _ (displacement_next t i.next) (λ o f.
      values_give (Taken p s a) _ (record { named = q.0; taken = refl; unwritten = not_written a; far = 1 + n + n; some = omega arith; few = omega (arith, narrow_few t q.1); next = f ∙ (ap (λ z. above z n) (e ∙ above_above p 1 n) ∙ above_above p (1 + n) n) })))

  index_fine : (x : ℕ) → ltb x 32 ≡ true → Gives (Taken p s a) (indexed_at p x)
  unfolding indexed_at
  index_fine x h =
      values_bind (λ b. b < 256) (Taken p s a) _ _ (values_fetch (above p 1)) (λ b _.
      values_bind (λ t. fine_shape t ≡ true) (Taken p s a) _ _ (values_some (λ t. fine_shape t ≡ true) (shape_of (plain_mode b)) _ (shape_of_fine (plain_mode b) (plain_fine b))) (λ t f.
      values_bind (Reached (above p 2)) (Taken p s a) _ _ (shape_fine (above p 2) t (omega arith) f) (λ l r. values_give (Taken p s a) _ (record {
        named = (λ i. r.named i && h i);
        taken = refl;
        unwritten = not_written a;
        far = 2 + r.far;
        some = omega arith;
        few = omega (arith, r.few);
        next = r.next ∙ above_above p 2 r.far;
      }))))

  by_mode_fine : (m : Mode) → fine_mode m ≡ true → Gives (Taken p s a) (by_mode p s a m)
  unfolding by_mode
  by_mode_fine (At t) h = values_bind (Reached (above p 1)) (Taken p s a) _ _ (shape_fine (above p 1) t (omega arith) h) (λ l r. values_give (Taken p s a) _ (record { named = r.named; taken = refl; unwritten = not_written a; far = 1 + r.far; some = omega arith; few = omega (arith, r.few); next = r.next ∙ above_above p 1 r.far }))
  by_mode_fine (Quick v) h = values_bind (λ _. is_ok (immediate_verdict a s) ≡ true) (Taken p s a) _ _ (permit_fine p (immediate_verdict a s)) (λ _ q. values_give (Taken p s a) _ (record {
    named = refl;
    taken = (λ i. q i && lt-ltb v (256 ^ byte_count s) (quick_below s v (ltb-true v 16 h)) i);
    unwritten = read_only a s q;
    far = 1;
    some = omega arith;
    few = omega arith;
    next = refl;
  }))
  by_mode_fine Immediate h = values_bind (λ _. is_ok (immediate_verdict a s) ≡ true) (Taken p s a) _ _ (permit_fine p (immediate_verdict a s)) (λ _ q. immediate_fine q)
  by_mode_fine (Register n) h = values_bind (λ _. is_ok (register_verdict a s n) ≡ true) (Taken p s a) _ _ (permit_fine p (register_verdict a s n)) (λ _ q. values_give (Taken p s a) _ (record { named = h; taken = q; unwritten = not_written a; far = 1; some = omega arith; few = omega arith; next = refl }))
  by_mode_fine (Increment n) h = values_give (Taken p s a) _ (record { named = h; taken = refl; unwritten = not_written a; far = 1; some = omega arith; few = omega arith; next = refl })
  by_mode_fine (Decrement n) h = values_give (Taken p s a) _ (record { named = h; taken = refl; unwritten = not_written a; far = 1; some = omega arith; few = omega arith; next = refl })
  by_mode_fine (Double b t) h = double_fine b t h
  by_mode_fine (Index x) h = index_fine x h

  pub operand_fine : (m : Bool) → Gives (Taken p s a) (operand_at p m s a)
  unfolding operand_at
  operand_fine m = values_bind (λ b. b < 256) (Taken p s a) _ _ (values_fetch p) (λ b _.
      values_bind (λ k. fine_mode k ≡ true) (Taken p s a) _ _ (values_some (λ k. fine_mode k ≡ true) (mode_of m b) _ (λ k e. subst Good e (mode_fine m b))) (λ k h. by_mode_fine k h))
