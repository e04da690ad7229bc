-- Bounds of string instructions: each character is set right behind the one before, and at most 128 of two bytes each.
use Rattle.std.proofs.Common.{◌≡◌, ℕ, suc, ◌+◌, ◌-◌, ◌*◌, ◌<◌, ◌≤◌, min, Some, None, Option, eqb, ltb, sym, refl, ap, subst, mul-le-mul_right, add-mul, mul-le-mul, arith}
use Rattle.std.proofs.lemmas.Bool.{ltb-false}
use Rattle.std.proofs.lemmas.Option.{none-some}
use Rattle.board.specs.declared.Right.{Right}
use Rattle.board.specs.Block.{above}
use Rattle.number.specs.declared.width.Size.{Size}
use Rattle.number.specs.Sizes.{byte_count}
use Rattle.bus.specs.Program.{Program, ◌>>=◌}
use Rattle.bus.specs.Bound.{Filled, unfilled, Within, Reads}
use Rattle.bus.specs.Wide.{fetch_number}
use Rattle.bus.proofs.Room.{within_weaken, within_then, within_at, within_after, within_give, within_if, within_times, reads_give, reads_refuse, reads_if}
use Rattle.bus.proofs.WideRoom.{reads_number, filling, Put, stores}
use Rattle.bus.proofs.Always.{Always, always_give, always_refuse, always_if}
use Rattle.bus.proofs.Enough.{Enough, enough_end}
use Rattle.instruction.specs.declared.operation.StringOperation.{StringOperation}
use Rattle.instruction.specs.declared.operation.StringOperation.TheVariants.{Movc, Movcf, Movcs}
use Rattle.instruction.specs.declared.action.StringOperand.{StringOperand}
use Rattle.processor.specs.declared.cpu.Cpu.{Cpu}
use Rattle.processor.specs.Registers.{read_register}
use Rattle.strings.specs.Strings.{length_value, counted, character, put_character, copy_character, copied, filled, stop_step, copied_until, moved, padded, halted, worked}

-- ==== lengths

pub reads_counted : (c : Cpu) (x : StringOperand) → Reads 0 (counted c x)
unfolding counted
reads_counted c x = reads_if 0 (ltb 128 (length_value c x.length)) _ _ (λ _. reads_refuse _ 0 _) (λ _. reads_give 0 _)

pub counted_few : (c : Cpu) (x : StringOperand) → Always (λ n. n ≤ 128) (counted c x)
unfolding counted
counted_few c x = always_if _ (ltb 128 (length_value c x.length)) _ _ (λ _. always_refuse _ _) (λ e. always_give _ _ (ltb-false 128 (length_value c x.length) e))

-- ==== characters

-- the first n characters have the bytes of character i
up_to : (i n k : ℕ) → i < n → suc i * k ≤ n * k
up_to i n k l = let here : suc i ≤ n = omega arith in mul-le-mul_right k here

module _ (rights : ℕ → Right) (k : ℕ) where
  -- character i of a string at `to`, which goes on after j bytes from base on
  placed : (r base j to i v : ℕ) → above base j ≡ above to 0 → j + suc i * k ≤ 256 → Within rights r (filling base (j + i * k)) (put_character k to i v) (Put r (filling base (j + suc i * k)))
  unfolding put_character
  placed r base j to i v e h =
      let more : j + i * k + k ≡ j + suc i * k = omega arith in
      subst (λ z. Within rights r (filling base (j + i * k)) (put_character k to i v) (Put r (filling base z))) more (stores rights r base (j + i * k) k (character k to i) v (omega arith) (omega arith))

  filled_within : (r base j to v n : ℕ) → above base j ≡ above to 0 → j + n * k ≤ 256 → Within rights r (filling base j) (filled k to v n) (λ _ u _. u ≡ filling base (j + n * k))
  unfolding filled
  filled_within r base j to v n e h =
      within_times rights (λ i _ u _. u ≡ filling base (j + i * k)) r (filling base j) n (λ i _. put_character k to i v) tt (ap (filling base) (omega arith))
      (λ i m u _ l q. within_at rights m _ u _ _ q (within_weaken rights m _ _ _ _ (λ _ _ _ p. p.1) (placed m base j to i v e (omega (arith, up_to i n k l)))))

  -- copies of n characters at the most
  module _ (m n from to : ℕ) (few : n * k ≤ 256) (left : n * k ≤ m) where
    -- before character i: no more was fetched than the characters before it, and they are set
    abbrev Copied : ℕ → ℕ → Filled → Type 0
    Copied i r u = (m ≤ r + i * k) × (u ≡ filling to (0 + i * k))

    none : unfilled ≡ filling to (0 + 0 * k)
    none = let e : 0 ≡ 0 + 0 * k = omega arith in ap (filling to) e

    -- character i fetched, and then f
    fetched : {A : Type 0} (i r : ℕ) (f : ℕ → Program A) (Q : ℕ → Filled → A → Type 0) → i < n → m ≤ r + i * k → ((v p : ℕ) → m ≤ p + suc i * k → Within rights p (filling to (0 + i * k)) (f v) Q) → Within rights r (filling to (0 + i * k)) (fetch_number k (character k from i) >>= f) Q
    fetched i r f Q l q h = within_after rights k r (filling to (0 + i * k)) (fetch_number k (character k from i)) f Q (reads_number k (character k from i)) (omega (arith, up_to i n k l)) (λ p v g. h v p (omega arith))

    -- and put
    put : (i r v : ℕ) → i < n → m ≤ r + suc i * k → Within rights r (filling to (0 + i * k)) (put_character k to i v) (λ p u _. Copied (suc i) p u)
    put i r v l q = within_weaken rights r _ _ _ _ (λ p u _ g. (omega (arith, g.0), g.1)) (placed r to 0 to i v refl (omega (arith, up_to i n k l)))

    copied_within : Within rights m unfilled (copied k from to n) (λ r u _. Copied n r u)
    unfolding copied copy_character
    copied_within =
        within_times rights (λ i r u _. Copied i r u) m unfilled n (λ i _. copy_character k from to i) tt (omega arith, none)
        (λ i r u _ l q. within_at rights r _ u _ _ q.1 (fetched i r (λ v. put_character k to i v) _ l q.0 (λ v p g. put i p v l g)))

    -- the same up to the character that ends the copy; nothing is set after it
    abbrev Until : ℕ → ℕ → Filled → Option ℕ → Type 0
    Until i r u met = (m ≤ r + i * k) × (met ≡ None → u ≡ filling to (0 + i * k))

    stop_within : (stop i r : ℕ) (u : Filled) (met : Option ℕ) → i < n → Until i r u met → Within rights r u (stop_step k from to stop i met) (Until (suc i))
    unfolding stop_step
    stop_within stop i r u (Some j) l q = within_give rights r u (Some j) _ (omega (arith, q.0), λ f. absurd (none-some j (sym f)))
    stop_within stop i r u None l q =
        within_at rights r _ u _ _ (q.1 refl) (fetched i r _ _ l q.0
        (λ v p g. within_if rights p _ (eqb v stop) _ _ _
        (λ _. within_give rights p _ _ _ (g, λ f. absurd (none-some i (sym f))))
        (λ _. within_then rights p _ _ _ _ _ (put i p v l g) (λ j w _ h. within_give rights j w _ _ (h.0, λ _. h.1)))))

    until_within : (stop : ℕ) → Within rights m unfilled (copied_until k from to stop n) (Until n)
    unfolding copied_until
    until_within stop = within_times rights Until m unfilled n (stop_step k from to stop) _ (omega arith, λ _. none) (λ i r u st l q. stop_within stop i r u st l q)

-- ==== instructions

few_bytes : (n k : ℕ) → n ≤ 128 → k ≤ 2 → n * k ≤ 256
few_bytes n k h l = mul-le-mul h l

module _ (c : Cpu) (s : Size) (from to : ℕ) (narrow : byte_count s ≤ 2) where
  moved_enough : (n next : ℕ) → n ≤ 128 → Enough 256 (moved c s from to n next)
  unfolding moved
  moved_enough n next h =
      let few = few_bytes n (byte_count s) h narrow in
      enough_end 256 (copied (byte_count s) from to n) _ (λ rights m l. within_weaken rights m unfilled _ _ _ (λ _ _ _ _. tt) (copied_within rights (byte_count s) m n from to few (omega arith)))

  halted_enough : (n next : ℕ) → n ≤ 128 → Enough 256 (halted c s from to n next)
  unfolding halted
  halted_enough n next h =
      let few = few_bytes n (byte_count s) h narrow in
      enough_end 256 (copied_until (byte_count s) from to (read_register c s 26) n) _ (λ rights m l. within_weaken rights m unfilled _ _ _ (λ _ _ _ _. tt) (until_within rights (byte_count s) m n from to few (omega arith) (read_register c s 26)))

  -- the fill goes on where the copy ended
  padded_enough : (i n next : ℕ) → i ≤ n → n ≤ 128 → Enough 256 (padded c s from to i n next)
  unfolding padded
  padded_enough i n next h g rights m l =
      let k = byte_count s in
      let few = few_bytes (i + (n - i)) k (omega arith) narrow in
      let both = add-mul i (n - i) k in
      within_then rights m unfilled (copied k from to i) _ _ _ (copied_within rights k m i from to (omega arith) (omega arith)) (λ r u _ q.
      within_at rights r _ u _ _ q.1
      (within_then rights r _ (filled k (character k to i) (read_register c s 26) (n - i)) _ _ _
      (filled_within rights k r to (0 + i * k) (character k to i) (read_register c s 26) (n - i) (omega arith) (omega arith))
      (λ p w _ _. within_give rights p w _ _ tt)))

  pub worked_enough : (o : StringOperation) (m n next : ℕ) → m ≤ 128 → n ≤ 128 → Enough 256 (worked c o s from to m n next)
  unfolding worked
  worked_enough Movc m n next h l = moved_enough (min m n) next (omega arith)
  worked_enough Movcf m n next h l = padded_enough (min m n) n next (omega arith) l
  worked_enough Movcs m n next h l = halted_enough (min m n) next (omega arith)
