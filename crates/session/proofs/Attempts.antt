-- A step tried on its bus comes to what the step's program comes to, since there is room.
use Rattle.std.proofs.Common.{◌≡◌, ℕ, ◌+◌, ◌≤◌, true, List, [], length, take, Result, sym, ap, ◌∙◌, subst, arith}
use Rattle.std.proofs.lemmas.List.{length-take-le}
use Rattle.board.specs.declared.Right.{Right}
use Rattle.board.specs.Meaning.{writable}
use Rattle.bus.specs.declared.refusal.Refusal.{Refusal}
use Rattle.bus.specs.declared.line.ReadLine.{ReadLine}
use Rattle.bus.specs.declared.line.WriteLine.{WriteLine}
use Rattle.bus.specs.Sheets.{All}
use Rattle.bus.specs.Program.{Program, World, Trail, runs}
use Rattle.bus.specs.Seen.{Seen, Runs}
use Rattle.bus.specs.Bound.{Bounded}
use Rattle.bus.proofs.Room.{room_for}

-- what a step finds and what it leaves, by their parts
abbrev pub found : (ℕ → Right) → (ℕ → ℕ) → List WriteLine → World
found rights bytes writes = record { rights = rights; bytes = bytes; writes = writes }

abbrev pub left : List ReadLine → List (ℕ × ℕ) → Trail
left reads own = record { reads = reads; own = own }

module _ {A : Type 0} {p : Program A} {v w : Seen} {r : Result A Refusal} (h : Runs p v r w) (bounded : Bounded 300 p) (fresh : v.trail.own ≡ []) (free : length v.trail.reads + 300 ≤ length v.sheet) where
  exact : runs p v.world v.trail ≡ (r, w.trail)
  exact = h.comes (room_for 300 (length v.sheet) p v.world v.trail bounded fresh free).0

  pub tried : (xs : List ReadLine) → xs ≡ w.sheet → w.trail.reads ≡ take w.used w.sheet → (ws : List WriteLine) → ws ≡ v.world.writes → runs p (found v.world.rights v.world.bytes ws) (left v.trail.reads []) ≡ (r, left (take w.used xs) w.trail.own)
  tried xs e m ws q =
      (λ i. runs p (found v.world.rights v.world.bytes (q i)) (left v.trail.reads (sym fresh i)))
      ∙ (exact ∙ (λ i. (r, left ((m ∙ ap (take w.used) (sym e)) i) w.trail.own)))

  pub storable : All (λ c. writable (v.world.rights c.0) ≡ true) w.trail.own
  storable = subst (λ o. All (λ c. writable (v.world.rights c.0) ≡ true) o.1.own) exact (room_for 300 (length v.sheet) p v.world v.trail bounded fresh free).1.stores

pub few : (n : ℕ) (xs : List ReadLine) → n + 300 ≤ length xs → length (take n xs) + 300 ≤ length xs
few n xs h = omega (arith, length-take-le n xs (omega arith))
