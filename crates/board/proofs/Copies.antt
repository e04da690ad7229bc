-- Copying byte by byte: one more byte, and none after a refusal.
use Rattle.std.proofs.Common.{◌≡◌, ℕ, zero, suc, ◌+◌, ◌<◌, ◌≤◌, Bool, false, cond, eqb, Some, None, Option, sym, refl, ap, ◌∙◌, subst, inl, inr, add-one, arith}
use Rattle.std.proofs.lemmas.Bool.{eq-eqb, ne_eqb, cases_lt}
use Rattle.board.specs.declared.Right.{Right}
use Rattle.board.specs.Meaning.{fetched, writable, changed, stored}
use Rattle.board.specs.Block.{above, copy_one, copy_next, copied}

module _ (rights : ℕ → Right) (from to : ℕ) (f : ℕ → ℕ) where
  -- one more, by what the board answers
  pub copied_more : (n : ℕ) (g : ℕ → ℕ) (b : Option ℕ) (w : Bool) → copied rights from to n f ≡ (n, g) → b ≡ fetched (rights (above from n)) (g (above from n)) → w ≡ writable (rights (above to n)) → copied rights from to (n + 1) f ≡ copy_one n (above to n) g b w
  copied_more n g b w h p q =
      let e = eq-eqb n n refl in
      ap (λ k. copied rights from to k f) (add-one n)
      ∙ (ap (λ o. copy_next rights from to n o.0 o.1 (eqb o.0 n)) h
      ∙ (ap (copy_next rights from to n n g) e
      ∙ (λ i. copy_one n (above to n) g (sym p i) (sym q i))))

  -- after a refusal nothing more is copied
  pub copied_stays : (m n k : ℕ) (g : ℕ → ℕ) → k < n → n ≤ m → copied rights from to n f ≡ (k, g) → copied rights from to m f ≡ (k, g)
  copied_stays zero n k g l s h = absurd (omega arith)
  copied_stays (suc m) n k g l s h = elim (cases_lt n (suc m)) [
    | inl t ↦ let r = copied_stays m n k g l (omega arith) h in
        ap (λ o. copy_next rights from to m o.0 o.1 (eqb o.0 m)) r ∙ ap (copy_next rights from to m k g) (ne_eqb k m (omega arith))
    | inr t ↦ let e : n ≡ suc m = omega arith in subst (λ j. copied rights from to j f ≡ (k, g)) e h
  ]

  -- a turn of the loop, on a board whose rights are still the same: the byte may not be stored
  pub turn_stops : (now_rights : ℕ → Right) (n b m : ℕ) (g g' : ℕ → ℕ) → now_rights ≡ rights → n < m → copied rights from to n f ≡ (n, g) → Some b ≡ fetched (now_rights (above from n)) (g (above from n)) → false ≡ writable (now_rights (above to n)) → g' ≡ stored (now_rights (above to n)) (above to n) b g → copied rights from to m f ≡ (n, g')
  turn_stops now_rights n b m g g' same l h p q s =
      copied_stays m (n + 1) n g (omega arith) (omega arith) (copied_more n g (Some b) false h (p ∙ ap (λ r. fetched (r (above from n)) (g (above from n))) same) (q ∙ ap (λ r. writable (r (above to n))) same))
      ∙ ap (λ z. (n, z)) (sym (s ∙ (λ j x. cond (sym q j) (changed (above to n) b g x) (g x))))

  -- there is no byte to copy
  pub turn_ends : (now_rights : ℕ → Right) (n m : ℕ) (g : ℕ → ℕ) → now_rights ≡ rights → n < m → copied rights from to n f ≡ (n, g) → None ≡ fetched (now_rights (above from n)) (g (above from n)) → copied rights from to m f ≡ (n, g)
  turn_ends now_rights n m g same l h p =
      copied_stays m (n + 1) n g (omega arith) (omega arith) (copied_more n g None (writable (rights (above to n))) h (p ∙ ap (λ r. fetched (r (above from n)) (g (above from n))) same) refl)
