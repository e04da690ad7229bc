-- The store buffer: the bytes that a step has set, a run of at most 256 from one address on, past FFFFFFFFh to 0.
use Rattle.std.specs.Prelude.{◌≡◌, ℕ, suc, ◌+◌, ◌-◌, ◌%◌, ◌^◌, ◌<◌, ◌≤◌, Bool, true, ◌&&◌, List, [], ◌∷◌, length, take, Some, None, Option, ◌==◌, nat_lt}
use Rattle.board.specs.Block.{above}
use Rattle.bus.specs.Sheets.{latest}

-- bytes from base + i on, each with its address
abbrev pub cells : ℕ → ℕ → List ℕ → List (ℕ × ℕ)
cells base i [] = []
cells base i (b ∷ bs) = (above base i, b) ∷ cells base (suc i) bs

-- the first n bytes of a buffer from base on, each with its address
abbrev pub buffered : ℕ → ℕ → List ℕ → List (ℕ × ℕ)
buffered base n bytes = cells base 0 (take n bytes)

-- the byte that was set last at address a
abbrev pub last_set : ℕ → List (ℕ × ℕ) → Option ℕ
last_set a cs = latest (λ c. c.0) (λ c. Some c.1) a None cs

-- how far address a lies above base
abbrev pub offset : ℕ → ℕ → ℕ
offset base a = (a + (2 ^ 32 - base)) % 2 ^ 32

-- whether a byte at address a joins the bytes that are set: the first may stand anywhere, each other right after the run, 256 at the most
abbrev pub joins : List (ℕ × ℕ) → ℕ → Bool
joins [] a = true
joins (c ∷ cs) a = nat_lt (length (c ∷ cs)) 256 && offset c.0 a == length (c ∷ cs)

-- bytes set in one run of at most 256, from one address on
pub record OneRun (own : List (ℕ × ℕ)) : Type 0 where
  pub base : ℕ
  pub bytes : List ℕ
  pub low : base < 2 ^ 32
  pub few : length bytes ≤ 256
  pub is : own ≡ cells base 0 bytes
