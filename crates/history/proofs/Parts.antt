-- A run beside the first lines of two sheets, as a run on the whole sheets.
use Rattle.std.proofs.Common.{◌≡◌, ℕ, ◌≤◌, min, Bool, true, false, List, ◌++◌, length, take, drop, Some, sym, refl, ap, ◌∙◌, subst, arith, length-append}
use Rattle.std.proofs.lemmas.List.{length-take-le, length-drop, take-append-le, drop-append-le, take-append-drop, take-take}
use Rattle.std.proofs.lemmas.Bool.Decides.{nat_tests}
use Rattle.board.specs.declared.Right.{Right}
use Rattle.bus.specs.declared.refusal.Refusal.TheVariants.{SheetTooShort}
use Rattle.machine.specs.declared.answer.Answer.{Answer}
use Rattle.session.specs.Calls.{State, Moment, state_at, short, attempted, tries, unless_short, ran, ran_at, Comes}
use Rattle.history.specs.declared.call.Lines.{Lines}
use Rattle.history.specs.History.{lines_of, lent_lines, ran_beside}
use Rattle.session.proofs.Steps.{stays}

-- a sheet with its first i lines put back
module _ {L : Type 0} (i : ℕ) (xs ys : List L) (fits : i ≤ length xs) (long : length ys ≡ length (take i xs)) where
  long_is : length ys ≡ i
  long_is = long ∙ length-take-le i xs fits

  back_length : length (ys ++ drop i xs) ≡ length xs
  back_length = omega (arith, length-append ys (drop i xs), length-drop i xs, long_is)

  back_used : (k : ℕ) → k ≤ i → take k (ys ++ drop i xs) ≡ take k ys
  back_used k h = take-append-le k ys (drop i xs) (omega (arith, long_is))

  back_past : (k : ℕ) → k ≤ i → drop k ys ≡ drop k (take i xs) → drop k (ys ++ drop i xs) ≡ drop k xs
  back_past k h e =
      drop-append-le k ys (drop i xs) (omega (arith, long_is))
      ∙ (ap (λ z. z ++ drop i xs) e
      ∙ (sym (drop-append-le k (take i xs) (drop i xs) (omega (arith, length-take-le i xs fits)))
      ∙ ap (drop k) (take-append-drop i xs)))

  -- untouched
  back_same : (k : ℕ) → take k ys ≡ take k (take i xs) → drop k ys ≡ drop k (take i xs) → ys ++ drop i xs ≡ xs
  back_same k t d =
      let e : ys ≡ take i xs = sym (take-append-drop k ys) ∙ ((λ j. t j ++ d j) ∙ take-append-drop k (take i xs)) in
      ap (λ z. z ++ drop i xs) e ∙ take-append-drop i xs

-- what a run comes to where a sheet is too short
ran_short : (R : ℕ → Right) (m n k : ℕ) (s : State) → short m n s.machine ≡ true → ◌≡◌ {A = State × Answer} (ran R m n k s) (s, record { completed = 0; refusal = Some SheetTooShort })
unfolding ran
ran_short R m n k s e = ap (λ b. unless_short b s (tries (attempted R m n) k s)) e

-- a moment of which a call sees the first lines of each sheet, and one with those lines put back
abbrev pub front_of : Lines → Moment → Moment
front_of l t = record { machine = t.machine; reads = take l.reads t.reads; writes = take l.writes t.writes; rights = t.rights; bytes = t.bytes }

abbrev pub put_back : Lines → Moment → Moment → Moment
put_back l t u = record { machine = u.machine; reads = u.reads ++ drop l.reads t.reads; writes = u.writes ++ drop l.writes t.writes; rights = u.rights; bytes = u.bytes }

module _ (k : ℕ) (l : Lines) (t u : Moment) (a : Answer) (fit_reads : l.reads ≤ length t.reads) (fit_writes : l.writes ≤ length t.writes) where
  abbrev Part : Type 0
  Part = Comes (ran_at k (front_of l t)) a (front_of l t) u

  abbrev Whole : Type 0
  Whole = Comes (ran_beside l k t) a t (put_back l t u)

  lengths : ◌≡◌ {A = State → State × Answer} (ran t.rights (length (take l.reads t.reads)) (length (take l.writes t.writes)) k) (ran t.rights l.reads l.writes k)
  lengths = λ i. ran t.rights (length-take-le l.reads t.reads fit_reads i) (length-take-le l.writes t.writes fit_writes i) k

  whole_short : short l.reads l.writes t.machine ≡ true → Part → Whole
  whole_short e h =
      let z = state_at (front_of l t) in
      let o : ◌≡◌ {A = State × Answer} (ran_at k (front_of l t)) (z, record { completed = 0; refusal = Some SheetTooShort }) = ap (λ f. f z) lengths ∙ ran_short t.rights l.reads l.writes k z e in
      let same : state_at u ≡ z = h.left ∙ ap (λ q. q.0) o in
      let m : u.machine ≡ t.machine = ap (λ s. s.machine) same in
      let reads : u.reads ++ drop l.reads t.reads ≡ t.reads = back_same l.reads t.reads u.reads fit_reads h.reads_length u.machine.read (ap (λ s. s.reads) same ∙ ap (λ q. take q.read (take l.reads t.reads)) (sym m)) h.reads_past in
      let writes : u.writes ++ drop l.writes t.writes ≡ t.writes = back_same l.writes t.writes u.writes fit_writes h.writes_length u.machine.written (ap (λ s. s.writes) same ∙ ap (λ q. take q.written (take l.writes t.writes)) (sym m)) h.writes_past in
      let back : put_back l t u ≡ t = λ i. record { machine = m i; reads = reads i; writes = writes i; rights = h.kept i; bytes = (same i).bytes } in
      let w = ran_short t.rights l.reads l.writes k (state_at t) e in
      let stay = stays t (ran_beside l k t) a (w ∙ ap (λ (b : Answer). (state_at t, b)) (sym (h.answer ∙ ap (λ q. q.1) o))) in
      subst (λ v. Comes (ran_beside l k t) a t v) (sym back) stay

  whole_long : short l.reads l.writes t.machine ≡ false → Part → Whole
  whole_long e h =
      let lr : t.machine.read ≤ l.reads = grind (arith, nat_tests) in
      let lw : t.machine.written ≤ l.writes = grind (arith, nat_tests) in
      let o : ran_at k (front_of l t) ≡ ran_beside l k t =
      (λ i. lengths i (record { machine = t.machine; reads = take-take t.machine.read l.reads t.reads lr i; writes = take-take t.machine.written l.writes t.writes lw i; bytes = t.bytes })) in
      let mr : u.machine.read ≤ l.reads = omega (arith, h.reads_within (omega (arith, length-take-le l.reads t.reads fit_reads)), length-take-le l.reads t.reads fit_reads) in
      let mw : u.machine.written ≤ l.writes = omega (arith, h.writes_within (omega (arith, length-take-le l.writes t.writes fit_writes)), length-take-le l.writes t.writes fit_writes) in
      record {
        answer = h.answer ∙ ap (λ q. q.1) o;
        left = (λ i. record { machine = u.machine; reads = back_used l.reads t.reads u.reads fit_reads h.reads_length u.machine.read mr i; writes = back_used l.writes t.writes u.writes fit_writes h.writes_length u.machine.written mw i; bytes = u.bytes }) ∙ (h.left ∙ ap (λ q. q.0) o);
        kept = h.kept;
        reads_length = back_length l.reads t.reads u.reads fit_reads h.reads_length;
        writes_length = back_length l.writes t.writes u.writes fit_writes h.writes_length;
        reads_more = h.reads_more;
        writes_more = h.writes_more;
        reads_within = λ _. omega arith;
        writes_within = λ _. omega arith;
        reads_past = back_past l.reads t.reads u.reads fit_reads h.reads_length u.machine.read mr h.reads_past;
        writes_past = back_past l.writes t.writes u.writes fit_writes h.writes_length u.machine.written mw h.writes_past;
      }

  by_short : (b : Bool) → short l.reads l.writes t.machine ≡ b → Part → Whole
  by_short true e h = whole_short e h
  by_short false e h = whole_long e h

  on_whole : Part → Whole
  on_whole h = by_short (short l.reads l.writes t.machine) refl h

-- the numbers of lines as the code has them
pub on_lent : (k i j : ℕ) (l : Lines) (t u : Moment) (a : Answer) → i ≡ min l.reads (length t.reads) → j ≡ min l.writes (length t.writes) → Comes (ran_at k (front_of (record { reads = i; writes = j }) t)) a (front_of (record { reads = i; writes = j }) t) u → Comes (ran_beside (lent_lines (lines_of t) l) k t) a t (put_back (record { reads = i; writes = j }) t u)
on_lent k i j l t u a p q h =
    let got : Lines = record { reads = i; writes = j } in
    subst (λ (m : Lines). Comes (ran_beside m k t) a t (put_back got t u)) (λ z. record { reads = p z; writes = q z }) (on_whole k got t u a (omega arith) (omega arith) h)
