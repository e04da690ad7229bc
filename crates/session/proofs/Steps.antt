-- What the code of a try does is what the try should come to.
use Rattle.std.proofs.Common.{◌≡◌, ℕ, ◌+◌, ◌≤◌, Bool, true, cond, List, ◌++◌, length, take, drop, Ok, Err, Result, sym, refl, ap, ◌∙◌, append_assoc, le_refl, arith, length-append}
use Rattle.std.proofs.lemmas.List.{length-take-le, take_at, drop_at}
use Rattle.std.proofs.lemmas.Bool.{le-leb}
use Rattle.std.proofs.lemmas.Bool.Decides.{nat_tests}
use Rattle.board.specs.declared.Right.{Right}
use Rattle.bus.specs.declared.refusal.Refusal.{Refusal}
use Rattle.bus.specs.declared.line.ReadLine.{ReadLine}
use Rattle.bus.specs.declared.line.WriteLine.{WriteLine}
use Rattle.bus.specs.Commit.{stores, write_lines, has_room, entered}
use Rattle.bus.specs.Program.{runs}
use Rattle.bus.specs.Seen.{Later}
use Rattle.bus.proofs.Commits.{length_lines}
use Rattle.bus.proofs.Lines.{drop_more_same}
use Rattle.processor.specs.declared.cpu.Cpu.{Cpu}
use Rattle.execute.specs.Step.{one_step}
use Rattle.machine.specs.declared.held.Machine.{Machine}
use Rattle.session.specs.Calls.{State, Moment, state_at, step_admitted, world, trail, concluded, stepped, attempted, attempted_at, Comes}
use Rattle.session.proofs.Attempts.{left}

-- nothing has changed
pub stays : {R : Type 0} (t : Moment) (o : State × R) (r : R) → o ≡ (state_at t, r) → Comes o r t t
stays t o r e = record {
  answer = sym (ap (λ z. z.1) e);
  left = sym (ap (λ z. z.0) e);
  kept = refl;
  reads_length = refl;
  writes_length = refl;
  reads_more = le_refl t.machine.read;
  writes_more = le_refl t.machine.written;
  reads_within = λ h. h;
  writes_within = λ h. h;
  reads_past = refl;
  writes_past = refl;
}

-- one call after another: what the second came to is what both came to, p
pub then_comes : {A B C : Type 0} {o : State × A} {x : A} {q : State × B} {y : B} {t u v : Moment} (p : State × C) (z : C) → Comes o x t u → Comes q y u v → z ≡ p.1 → q.0 ≡ p.0 → Comes p z t v
then_comes {t = t} {u = u} {v = v} p z h k a e = record {
  answer = a;
  left = k.left ∙ e;
  kept = k.kept ∙ h.kept;
  reads_length = k.reads_length ∙ h.reads_length;
  writes_length = k.writes_length ∙ h.writes_length;
  reads_more = omega (arith, h.reads_more, k.reads_more);
  writes_more = omega (arith, h.writes_more, k.writes_more);
  reads_within = λ p. omega (arith, k.reads_within (omega (arith, h.reads_within p, h.reads_length)), h.reads_length);
  writes_within = λ p. omega (arith, k.writes_within (omega (arith, h.writes_within p, h.writes_length)), h.writes_length);
  reads_past = k.reads_past ∙ drop_more_same u.machine.read v.machine.read u.reads t.reads k.reads_more h.reads_past;
  writes_past = k.writes_past ∙ drop_more_same u.machine.written v.machine.written u.writes t.writes k.writes_more h.writes_past;
}

-- a step that is not admitted
pub not_admitted : (t : Moment) (e : Refusal) (r : Result (Unit {0}) Refusal) → Err e ≡ step_admitted (length t.reads) (length t.writes) t.machine → r ≡ Err e → Comes (attempted_at t) r t t
unfolding attempted
not_admitted t e r h q = stays t _ _ (ap (stepped t.rights (state_at t)) (sym h) ∙ ap (λ z. (state_at t, z)) (sym q))

-- where a step is admitted there are free lines
pub free_reads : (m n : ℕ) (s : Machine) → step_admitted m n s ≡ Ok tt → s.read + 300 ≤ m
free_reads m n s e = grind (arith, nat_tests)

pub free_writes : (m n : ℕ) (s : Machine) → step_admitted m n s ≡ Ok tt → s.written + 256 ≤ n
free_writes m n s e = grind (arith, nat_tests)

-- a sheet with new lines: its used lines, the rest, and its length
module _ {L : Type 0} (used : ℕ) (new sheet : List L) (room : used + length new ≤ length sheet) where
  front : length (take used sheet ++ new) ≡ used + length new
  front = length-append (take used sheet) new ∙ ap (λ n. n + length new) (length-take-le used sheet (omega arith))

  shape : entered used new sheet ≡ (take used sheet ++ new) ++ drop (used + length new) sheet
  shape = sym (append_assoc (take used sheet) new (drop (used + length new) sheet))

  pub entered_used : take (used + length new) (entered used new sheet) ≡ take used sheet ++ new
  entered_used = ap (take (used + length new)) shape ∙ take_at (take used sheet ++ new) (drop (used + length new) sheet) (used + length new) front

  pub entered_past : drop (used + length new) (entered used new sheet) ≡ drop (used + length new) sheet
  entered_past = ap (drop (used + length new)) shape ∙ drop_at (take used sheet ++ new) (drop (used + length new) sheet) (used + length new) front

module _ (t : Moment) (rs' : List ReadLine) (used : ℕ) (o : Result Cpu Refusal) (own : List (ℕ × ℕ)) (clear : step_admitted (length t.reads) (length t.writes) t.machine ≡ Ok tt) (comes : runs (one_step t.machine.cpu) (world t.rights (state_at t)) (trail (state_at t)) ≡ (o, left (take used rs') own)) (later : Later t.machine.read t.reads used rs') where
  abbrev s : Machine
  s = t.machine

  within : used ≤ length rs'
  within = later.within (omega (arith, free_reads (length t.reads) (length t.writes) s clear))

  read_is : length (take used rs') ≡ used
  read_is = length-take-le used rs' within

  outcome : attempted_at t ≡ concluded t.rights (state_at t) o (left (take used rs') own)
  unfolding attempted
  outcome = ap (stepped t.rights (state_at t)) clear ∙ ap (λ z. concluded t.rights (state_at t) z.0 z.1) comes

  pub refused : (e : Refusal) → o ≡ Err e → (r : Result (Unit {0}) Refusal) → r ≡ Err e → Comes (attempted_at t) r t (record { machine = record { cpu = s.cpu; completed = s.completed; read = used; written = s.written }; reads = rs'; writes = t.writes; rights = t.rights; bytes = t.bytes })
  refused e q r a =
      let p = outcome ∙ ap (λ z. concluded t.rights (state_at t) z (left (take used rs') own)) q in
      record {
        answer = a ∙ sym (ap (λ z. z.1) p);
        left = (λ i. record { machine = record { cpu = s.cpu; completed = s.completed; read = sym read_is i; written = s.written }; reads = take used rs'; writes = take s.written t.writes; bytes = t.bytes }) ∙ sym (ap (λ z. z.0) p);
        kept = refl;
        reads_length = later.long;
        writes_length = refl;
        reads_more = later.more;
        writes_more = le_refl s.written;
        reads_within = λ _. omega (arith, within, later.long);
        writes_within = λ h. h;
        reads_past = later.past;
        writes_past = refl;
      }

  module _ (n : ℕ) (count : n ≡ length own) (few : n ≤ 256) where
    abbrev ws : List WriteLine
    ws = t.writes

    room : s.written + length (write_lines (s.completed + 1) own) ≤ length ws
    room = omega (arith, free_writes (length t.reads) (length ws) s clear, length_lines (s.completed + 1) own)

    fits : has_room s.written (length own) ws ≡ true
    fits = le-leb (s.written + length own) (length ws) (omega (arith, room, length_lines (s.completed + 1) own))

    lines_are : s.written + length (write_lines (s.completed + 1) own) ≡ s.written + n
    lines_are = omega (arith, length_lines (s.completed + 1) own)

    pub accepted : (x : Cpu) → o ≡ Ok x → (b : Bool) → b ≡ has_room s.written (length own) ws → (ws' : List WriteLine) (f' : ℕ → ℕ) (rights' : ℕ → Right) → rights' ≡ t.rights → f' ≡ cond b (stores t.rights own t.bytes) t.bytes → ws' ≡ cond b (entered s.written (write_lines (s.completed + 1) own) ws) ws → length ws' ≡ length ws → Comes (attempted_at t) (Ok tt) t (record { machine = record { cpu = x; completed = s.completed + 1; read = used; written = s.written + n }; reads = rs'; writes = ws'; rights = rights'; bytes = f' })
    accepted x q b e ws' f' rights' k h w long =
        let p = outcome ∙ ap (λ z. concluded t.rights (state_at t) z (left (take used rs') own)) q in
        let all : b ≡ true = e ∙ fits in
        let bytes : f' ≡ stores t.rights own t.bytes = h ∙ ap (λ z. cond z (stores t.rights own t.bytes) t.bytes) all in
        let sheet : ws' ≡ entered s.written (write_lines (s.completed + 1) own) ws = w ∙ ap (λ z. cond z (entered s.written (write_lines (s.completed + 1) own) ws) ws) all in
        let lines : take (s.written + n) ws' ≡ take s.written ws ++ write_lines (s.completed + 1) own = ap (take (s.written + n)) sheet ∙ (ap (λ k. take k (entered s.written (write_lines (s.completed + 1) own) ws)) (sym lines_are) ∙ entered_used s.written (write_lines (s.completed + 1) own) ws room) in
        let past : drop (s.written + n) ws' ≡ drop (s.written + n) ws = ap (drop (s.written + n)) sheet ∙ (ap (λ k. drop k (entered s.written (write_lines (s.completed + 1) own) ws)) (sym lines_are) ∙ (entered_past s.written (write_lines (s.completed + 1) own) ws room ∙ ap (λ k. drop k ws) lines_are)) in
        record {
          answer = sym (ap (λ z. z.1) p);
          left = (λ i. record { machine = record { cpu = x; completed = s.completed + 1; read = sym read_is i; written = s.written + count i }; reads = take used rs'; writes = lines i; bytes = bytes i }) ∙ sym (ap (λ z. z.0) p);
          kept = k;
          reads_length = later.long;
          writes_length = long;
          reads_more = later.more;
          writes_more = omega arith;
          reads_within = λ _. omega (arith, within, later.long);
          writes_within = λ _. omega (arith, room, lines_are);
          reads_past = later.past;
          writes_past = past;
        }
