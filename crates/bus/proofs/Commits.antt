-- Storing and listing bytes one by one.
use Rattle.std.proofs.Common.{◌≡◌, ℕ, suc, ◌+◌, ◌<◌, List, [], ◌∷◌, ◌++◌, length, get_or, take, drop, set, sym, refl, ap, ◌∙◌, append_assoc, arith}
use Rattle.std.proofs.lemmas.List.{take_more, take_more_set, length-take-le, take-append-drop}
use Rattle.board.specs.declared.Right.{Right}
use Rattle.board.specs.Meaning.{stored}
use Rattle.board.specs.Block.{above}
use Rattle.bus.specs.declared.line.WriteLine.{WriteLine}
use Rattle.bus.specs.Buffer.{cells, buffered}
use Rattle.bus.specs.Commit.{stores, write_lines, entered}
use Rattle.bus.proofs.Buffers.{cells_push}

stores_push : (rights : ℕ → Right) (cs : List (ℕ × ℕ)) (a b : ℕ) (f : ℕ → ℕ) → stores rights (cs ++ ((a, b) ∷ [])) f ≡ stored (rights a) a b (stores rights cs f)
stores_push rights [] a b f = refl
stores_push rights (c ∷ cs) a b f = stores_push rights cs a b (stored (rights c.0) c.0 c.1 f)

lines_push : (step : ℕ) (cs : List (ℕ × ℕ)) (a b : ℕ) → write_lines step (cs ++ ((a, b) ∷ [])) ≡ write_lines step cs ++ (record { step = step; address = a; byte = b } ∷ [])
lines_push step [] a b = refl
lines_push step (c ∷ cs) a b = ap (λ xs. record { step = step; address = c.0; byte = c.1 } ∷ xs) (lines_push step cs a b)

pub length_lines : (step : ℕ) (cs : List (ℕ × ℕ)) → length (write_lines step cs) ≡ length cs
length_lines step [] = refl
length_lines step (c ∷ cs) = ap suc (length_lines step cs)

module _ (base : ℕ) (bytes : List ℕ) where
  -- one byte more of a buffer
  buffered_more : (i : ℕ) → i < length bytes → buffered base (i + 1) bytes ≡ buffered base i bytes ++ ((above base i, get_or bytes i 0) ∷ [])
  buffered_more i h =
      let l : 0 + length (take i bytes) ≡ i = omega (arith, length-take-le i bytes (omega arith)) in
      ap (cells base 0) (take_more bytes i 0 h) ∙ (cells_push base 0 (take i bytes) (get_or bytes i 0) ∙ ap (λ k. buffered base i bytes ++ ((above base k, get_or bytes i 0) ∷ [])) l)

  -- one byte more is stored
  pub stores_more : (rights now_rights : ℕ → Right) (f g g' : ℕ → ℕ) (i : ℕ) → i < length bytes → now_rights ≡ rights → g ≡ stores rights (buffered base i bytes) f → g' ≡ stored (now_rights (above base i)) (above base i) (get_or bytes i 0) g → g' ≡ stores rights (buffered base (i + 1) bytes) f
  stores_more rights now_rights f g g' i h same e s =
      s ∙ (ap (λ r. stored (r (above base i)) (above base i) (get_or bytes i 0) g) same
      ∙ (ap (stored (rights (above base i)) (above base i) (get_or bytes i 0)) e
      ∙ (sym (stores_push rights (buffered base i bytes) (above base i) (get_or bytes i 0) f)
      ∙ ap (λ cs. stores rights cs f) (sym (buffered_more i h)))))

  -- and listed
  pub lines_more : (step used i : ℕ) (ws ws' : List WriteLine) → i < length bytes → used + i < length ws' → take (used + i) ws' ≡ take used ws ++ write_lines step (buffered base i bytes) → take (used + (i + 1)) (set ws' (used + i) (record { step = step; address = above base i; byte = get_or bytes i 0 })) ≡ take used ws ++ write_lines step (buffered base (i + 1) bytes)
  lines_more step used i ws ws' h l e =
      let x : WriteLine = record { step = step; address = above base i; byte = get_or bytes i 0 } in
      let n : used + (i + 1) ≡ used + i + 1 = omega arith in
      ap (λ k. take k (set ws' (used + i) x)) n
      ∙ (take_more_set ws' (used + i) x l
      ∙ (ap (λ xs. xs ++ (x ∷ [])) e
      ∙ (append_assoc (take used ws) (write_lines step (buffered base i bytes)) (x ∷ [])
      ∙ ap (λ xs. take used ws ++ xs) (sym (lines_push step (buffered base i bytes) (above base i) (get_or bytes i 0)) ∙ ap (write_lines step) (sym (buffered_more i h))))))

-- a sheet by its front and its back
pub entered_by : {L : Type 0} (used n : ℕ) (new sheet sheet' : List L) → length new ≡ n → take (used + n) sheet' ≡ take used sheet ++ new → drop (used + n) sheet' ≡ drop (used + n) sheet → sheet' ≡ entered used new sheet
entered_by used n new sheet sheet' l p q =
    sym (take-append-drop (used + n) sheet')
    ∙ ((λ i. p i ++ q i)
    ∙ (append_assoc (take used sheet) new (drop (used + n) sheet)
    ∙ ap (λ k. take used sheet ++ (new ++ drop (used + k) sheet)) (sym l)))
