-- Blocks: several addresses in a row, past FFFFFFFFh to 0.
use Rattle.std.specs.Prelude.{ℕ, zero, suc, ◌+◌, ◌%◌, ◌^◌, Bool, true, false, List, map, Some, None, Option, ◌==◌}
use Rattle.std.specs.List.{range_with_len}
use Rattle.board.specs.declared.Right.{Right}
use Rattle.board.specs.Meaning.{fetched, writable, changed}

-- the address n above a
abbrev pub above : ℕ → ℕ → ℕ
above a n = (a + n) % 2 ^ 32

-- what n fetches from address a on answer, in order
abbrev pub fetches : (ℕ → Right) → (ℕ → ℕ) → ℕ → ℕ → List (Option ℕ)
fetches rights bytes a n = map (λ k. fetched (rights (above a k)) (bytes (above a k))) (range_with_len 0 n)

-- one byte more after n were copied, by what its fetch answers and whether its store succeeds: how many are copied then, and the bytes of the board
abbrev pub copy_one : ℕ → ℕ → (ℕ → ℕ) → Option ℕ → Bool → ℕ × (ℕ → ℕ)
copy_one n to f (Some b) true = (suc n, changed to b f)
copy_one n to f (Some b) false = (n, f)
copy_one n to f None w = (n, f)

-- byte n, unless one before it was refused, so that only k are copied
abbrev pub copy_next : (ℕ → Right) → ℕ → ℕ → ℕ → ℕ → (ℕ → ℕ) → Bool → ℕ × (ℕ → ℕ)
copy_next rights from to n k f true = copy_one n (above to n) f (fetched (rights (above from n)) (f (above from n))) (writable (rights (above to n)))
copy_next rights from to n k f false = (k, f)

-- copying n bytes one by one, up to the first fetch or store that is refused: how many were copied, and the bytes of the board then
abbrev pub copied : (ℕ → Right) → ℕ → ℕ → ℕ → (ℕ → ℕ) → ℕ × (ℕ → ℕ)
copied rights from to zero f = (0, f)
copied rights from to (suc n) f = copy_next rights from to n (copied rights from to n f).0 (copied rights from to n f).1 ((copied rights from to n f).0 == n)
