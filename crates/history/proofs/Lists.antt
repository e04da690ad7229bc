-- What the code that carries out a list of calls does is what the list should come to.
use Rattle.std.proofs.Common.{◌≡◌, ℕ, ◌+◌, ◌<◌, ◌≤◌, List, [], ◌∷◌, ◌++◌, map, length, get_or, take, drop, set, sym, refl, ap, ◌∙◌, subst, arith}
use Rattle.std.proofs.lemmas.List.{get_or-take, map_more, take_more_set, drop-set-lt}
use Rattle.bus.proofs.Lines.{drop_more_same}
use Rattle.history.specs.declared.call.Lines.{Lines}
use Rattle.history.specs.declared.call.Call.{Call}
use Rattle.history.specs.declared.call.Call.TheVariants.{Preset}
use Rattle.history.specs.declared.call.Reply.{Reply}
use Rattle.session.specs.Calls.{Moment, state_at}
use Rattle.history.specs.History.{Phase, Point, at, did, did_at, after, opening, reached, answered, point, lines_of, lent, Follows, Recounts}
use Rattle.session.proofs.Steps.{stays, then_comes}
use Rattle.history.proofs.Stands.{after_append, replies_append, stands}

-- no call yet
pub list_none : (p : Phase) (t : Moment) → Follows (after t.rights [] (point p t)) [] p t t
unfolding after
list_none p t = record { answer = refl; phase = refl; comes = stays t _ _ refl }

-- one call more
module _ (calls : List Call) (c : Call) (replies : List Reply) (r : Reply) (p : Point) (v w : Phase) (t u z : Moment) where
  abbrev one : Point × Reply
  one = did u.rights c v (state_at u)

  abbrev so_far : Point × List Reply
  so_far = after t.rights calls p

  abbrev next : Point × Reply
  next = did t.rights c so_far.0.phase so_far.0.state

  pub list_more : Follows so_far replies v t u → Follows one r w u z → Follows (after t.rights (calls ++ (c ∷ [])) p) (replies ++ (r ∷ [])) w t z
  unfolding after
  list_more h k =
      let e : one ≡ next = λ i. did (h.comes.kept i) c (h.phase i) (h.comes.left i) in
      let l : (after t.rights (calls ++ (c ∷ [])) p).0 ≡ next.0 = after_append t.rights calls (c ∷ []) p in
      let a : (after t.rights (calls ++ (c ∷ [])) p).1 ≡ so_far.1 ++ (next.1 ∷ []) = replies_append t.rights calls (c ∷ []) p in
      record {
        answer = (λ i. h.answer i ++ ((k.answer ∙ ap (λ (o : Point × Reply). o.1) e) i ∷ [])) ∙ sym a;
        phase = k.phase ∙ (ap (λ (o : Point × Reply). o.0.phase) e ∙ sym (ap (λ (q : Point). q.phase) l));
        comes = then_comes _ tt h.comes k.comes refl (ap (λ (o : Point × Reply). o.0.state) e ∙ sym (ap (λ (q : Point). q.state) l));
      }

-- the turn of the loop
module _ (n i : ℕ) (calls : List Call) (replies : List Reply) (r : Reply) (p : Point) (v w : Phase) (t u z : Moment) where
  pub list_turn : n ≤ length calls → i < n → i < length replies → Follows (after t.rights (map (lent (lines_of t)) (take i calls)) p) (take i replies) v t u → Follows (did_at u v (get_or (take n calls) i (Preset 0 0))) r w u z → Follows (after t.rights (map (lent (lines_of t)) (take (i + 1) calls)) p) (take (i + 1) (set replies i r)) w t z
  list_turn fit b m h k =
      let c = get_or calls i (Preset 0 0) in
      let l : i < length calls = omega arith in
      let lines : lines_of u ≡ lines_of t = λ j. record { reads = h.comes.reads_length j; writes = h.comes.writes_length j } in
      let k' : Follows (did u.rights (lent (lines_of t) c) v (state_at u)) r w u z = subst (λ (y : Lines × Call). Follows (did u.rights (lent y.0 y.1) v (state_at u)) r w u z) (λ j. (lines j, get_or-take n calls i (Preset 0 0) b j)) k in
      let f = list_more (map (lent (lines_of t)) (take i calls)) (lent (lines_of t) c) (take i replies) r p v w t u z h k' in
      subst (λ (y : List Call × List Reply). Follows (after t.rights y.0 p) y.1 w t z) (λ j. (sym (map_more (lent (lines_of t)) calls i (Preset 0 0) l) j, sym (take_more_set replies i r m) j)) f

pub rest_turn : (i : ℕ) (replies replies₀ : List Reply) (r : Reply) → drop i replies ≡ drop i replies₀ → drop (i + 1) (set replies i r) ≡ drop (i + 1) replies₀
rest_turn i replies replies₀ r e = drop-set-lt (i + 1) replies i r (omega arith) ∙ drop_more_same i (i + 1) replies replies₀ (omega arith) e

-- the history that the list makes, and the statement there
pub recounted : (f : ℕ → ℕ) (h calls : List Call) (rs : List Reply) (p q : Phase) (t u : Moment) → Follows (after t.rights calls (point p t)) rs q t u → reached t.rights f h ≡ point p t → Recounts t.rights f h calls (point q u) rs
recounted f h calls rs p q t u k e = record {
  leads = after_append t.rights h calls (opening f) ∙ (ap (λ z. (after t.rights calls z).0) e ∙ sym (λ i. at (k.phase i) (k.comes.left i)));
  answers = replies_append t.rights h calls (opening f) ∙ ap (λ z. answered t.rights f h ++ z) (ap (λ z. (after t.rights calls z).1) e ∙ sym k.answer);
  stands = stands t.rights f (h ++ calls);
}
