-- The session statement stands after every list of calls, on every board.
use Rattle.std.proofs.Common.{◌≡◌, ℕ, List, [], ◌∷◌, ◌++◌, sym, refl, ap, ◌∙◌, subst}
use Rattle.board.specs.declared.Right.{Right}
use Rattle.bus.specs.Sheets.{All}
use Rattle.history.specs.declared.call.Call.{Call}
use Rattle.session.specs.Calls.{State}
use Rattle.history.specs.History.{Point, did, after, opening, reached, answered, Alike, runs_of, Stands}
use Rattle.history.proofs.Sound.{sound}
use Rattle.history.proofs.Twins.{twins}
use Rattle.history.proofs.Sums.{equal_sums}

-- ==== lists of calls, one after another
pub after_append : (rights : ℕ → Right) (xs ys : List Call) (p : Point) → (after rights (xs ++ ys) p).0 ≡ (after rights ys (after rights xs p).0).0
unfolding after
after_append rights [] ys p = refl
after_append rights (x ∷ xs) ys p = after_append rights xs ys (did rights x p.phase p.state).0

pub replies_append : (rights : ℕ → Right) (xs ys : List Call) (p : Point) → (after rights (xs ++ ys) p).1 ≡ (after rights xs p).1 ++ (after rights ys (after rights xs p).0).1
unfolding after
replies_append rights [] ys p = refl
replies_append rights (x ∷ xs) ys p = ap (λ rs. (did rights x p.phase p.state).1 ∷ rs) (replies_append rights xs ys (did rights x p.phase p.state).0)

-- ==== the statement
same_rights : (rights' rights : ℕ → Right) → ((a : ℕ) → rights' a ≡ rights a) → rights' ≡ rights
same_rights rights' rights h = λ i a. h a i

alike : (rights : ℕ → Right) (f g : ℕ → ℕ) (cs : List Call) → All (λ l. g l.address ≡ l.byte) (reached rights f cs).state.reads → Alike (reached rights g cs) (reached rights f cs) (answered rights g cs) (answered rights f cs)
alike rights f g cs h =
    let q = twins rights f g cs h in
    let w = q.twin.same in
    record { answers = q.replies; phase = q.phase; machine = ap (λ (z : State). z.machine) w; reads = ap (λ (z : State). z.reads) w; writes = ap (λ (z : State). z.writes) w }

pub stands : (rights : ℕ → Right) (f : ℕ → ℕ) (cs : List Call) → Stands rights f cs
stands rights f cs = record {
  written = λ a _. (sound rights f cs).board a;
  replayed = λ rights' g e h. subst (λ r. Alike (reached r g cs) (reached rights f cs) (answered r g cs) (answered rights f cs)) (sym (same_rights rights' rights e)) (alike rights f g cs h);
  summed = λ l js ks e. after_append rights cs (runs_of l js) (opening f) ∙ (equal_sums rights l (reached rights f cs) js ks e ∙ sym (after_append rights cs (runs_of l ks) (opening f)));
}
