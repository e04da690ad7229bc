-- What the sheets tell of the board.
use Rattle.std.proofs.Common.{◌≡◌, ℕ, ◌+◌, Bool, true, false, cond, ◌||◌, eqb, List, [], ◌∷◌, length, Ok, Err, Result, sym, refl, ap, ◌∙◌, le_refl, arith}
use Rattle.std.proofs.lemmas.Bool.{or_parts}
use Rattle.std.proofs.lemmas.Bool.Decides.{nat_tests}
use Rattle.board.specs.declared.Right.{Right}
use Rattle.board.specs.Meaning.{writable, stored}
use Rattle.bus.specs.declared.refusal.Refusal.{Refusal}
use Rattle.bus.specs.declared.line.WriteLine.{WriteLine}
use Rattle.bus.specs.Sheets.{names, All}
use Rattle.bus.specs.Program.{Trail, runs}
use Rattle.bus.specs.Commit.{stores, write_lines}
use Rattle.bus.proofs.Lines.{latest_append}
use Rattle.bus.proofs.Trace.{news}
use Rattle.bus.proofs.Room.{room_for}
use Rattle.processor.specs.declared.cpu.Cpu.{Cpu}
use Rattle.execute.specs.Step.{one_step}
use Rattle.machine.specs.declared.held.Machine.{Machine}
use Rattle.history.specs.declared.call.Call.{Call}
use Rattle.session.specs.Calls.{State, step_admitted, world, trail, concluded, stepped, attempted}
use Rattle.history.specs.History.{with_machine, opening, reached, last_written}
use Rattle.execute.proofs.Bounds.{step_bounded}
use Rattle.history.proofs.Keeps.{after_keeps}

-- ==== the last line for an address
abbrev pub of_write : WriteLine → ℕ
of_write l = l.address

pub last_unnamed : (xs : List WriteLine) (a d : ℕ) → names of_write a xs ≡ false → last_written a d xs ≡ d
last_unnamed [] a d e = refl
last_unnamed (x ∷ xs) a d e = let p = or_parts (eqb x.address a) (names of_write a xs) e in ap (λ t. last_written a (cond t x.byte d) xs) p.0 ∙ last_unnamed xs a d p.1

last_at : (xs : List WriteLine) (a d d' b : ℕ) (t : Bool) → ((d d' : ℕ) → names of_write a xs ≡ true → last_written a d xs ≡ last_written a d' xs) → (t || names of_write a xs) ≡ true → last_written a (cond t b d) xs ≡ last_written a (cond t b d') xs
last_at xs a d d' b true h e = refl
last_at xs a d d' b false h e = h d d' e

pub last_named : (xs : List WriteLine) (a d d' : ℕ) → names of_write a xs ≡ true → last_written a d xs ≡ last_written a d' xs
last_named [] a d d' e = let z : ◌≡◌ {A = ℕ} 0 1 = cc in absurd (omega arith)
last_named (x ∷ xs) a d d' e = last_at xs a d d' x.byte (eqb x.address a) (λ d d'. last_named xs a d d') e

eqb_sym : (a b : ℕ) → eqb a b ≡ eqb b a
eqb_sym a b = grind (arith, nat_tests)

-- the bytes of an accepted step are those on its lines
stores_last : (rights : ℕ → Right) (no' : ℕ) (cs : List (ℕ × ℕ)) (f : ℕ → ℕ) → All (λ c. writable (rights c.0) ≡ true) cs → (a : ℕ) → stores rights cs f a ≡ last_written a (f a) (write_lines no' cs)
stores_last rights no' [] f h a = refl
stores_last rights no' (c ∷ cs) f h a =
    let g = stored (rights c.0) c.0 c.1 f in
    let here : g a ≡ cond (eqb c.0 a) c.1 (f a) = ap (λ t. cond t (cond (eqb a c.0) c.1 (f a)) (f a)) h.0 ∙ ap (λ t. cond t c.1 (f a)) (eqb_sym a c.0) in
    stores_last rights no' cs g h.1 a ∙ ap (λ d. last_written a d (write_lines no' cs)) here

-- ==== the state of a session on a board that held f at the start: the used reads lines hold bytes of the start, and each address holds the byte on
-- the last used writes line for it, else the start's
pub record Sound (f : ℕ → ℕ) (s : State) : Type 0 where
  pub held : All (λ l. f l.address ≡ l.byte) s.reads
  pub board : (a : ℕ) → s.bytes a ≡ last_written a (f a) s.writes

module _ (rights : ℕ → Right) (f : ℕ → ℕ) where
  pub held_after : (s : State) → Sound f s → All (λ l. f l.address ≡ l.byte) (runs (one_step s.machine.cpu) (world rights s) (trail s)).1.reads
  held_after s h = news (λ l. f l.address ≡ l.byte) (one_step s.machine.cpu) (world rights s) (trail s) (λ a e. sym (h.board a ∙ last_unnamed s.writes a (f a) e)) h.held

  storable : (s : State) → All (λ c. writable (rights c.0) ≡ true) (runs (one_step s.machine.cpu) (world rights s) (trail s)).1.own
  storable s = (room_for 300 (length s.reads + 300) (one_step s.machine.cpu) (world rights s) (trail s) (step_bounded s.machine.cpu) refl (le_refl (length s.reads + 300))).1.stores

  sound_concluded : (s : State) (r : Result Cpu Refusal) (t : Trail) → Sound f s → All (λ l. f l.address ≡ l.byte) t.reads → All (λ c. writable (rights c.0) ≡ true) t.own → Sound f (concluded rights s r t).0
  sound_concluded s (Err e) t h k g = record { held = k; board = h.board }
  sound_concluded s (Ok c) t h k g = record {
    held = k;
    board = λ a. stores_last rights (s.machine.completed + 1) t.own s.bytes g a
        ∙ (ap (λ d. last_written a d (write_lines (s.machine.completed + 1) t.own)) (h.board a)
        ∙ sym (latest_append of_write (λ l. l.byte) a (f a) s.writes (write_lines (s.machine.completed + 1) t.own)));
  }

  sound_stepped : (s : State) (c : Result (Unit {0}) Refusal) → Sound f s → Sound f (stepped rights s c).0
  sound_stepped s (Err e) h = h
  sound_stepped s (Ok x) h = let o = runs (one_step s.machine.cpu) (world rights s) (trail s) in sound_concluded s o.0 o.1 h (held_after s h) (storable s)

  pub sound_try : (m n : ℕ) (s : State) → Sound f s → Sound f (attempted rights m n s).0
  unfolding attempted
  sound_try m n s h = sound_stepped s (step_admitted m n s.machine) h

  pub sound_change : (s : State) (m : Machine) → Sound f s → Sound f (with_machine s m)
  sound_change s m h = record { held = h.held; board = h.board }

  pub sound_opening : Sound f (opening f).state
  sound_opening = record { held = tt; board = λ a. refl }

  pub sound : (cs : List Call) → Sound f (reached rights f cs).state
  sound cs = after_keeps rights (Sound f) sound_try sound_change cs (opening f) sound_opening
