-- Bounds on what a program may do, whatever it is answered.
use Rattle.std.specs.Prelude.{◌≡◌, ℕ, suc, ◌+◌, ◌-◌, ◌^◌, ◌<◌, ◌≤◌, true}
use Rattle.board.specs.declared.Right.{Right}
use Rattle.board.specs.Meaning.{writable}
use Rattle.board.specs.Block.{above}
use Rattle.bus.specs.Program.{Program, give, refuse, fetch, ask, put}

-- the bytes that a step has set: none, or so many from base on
pub data Filled : Type 0 where
  unfilled : Filled
  filled : ℕ → ℕ → Filled

-- a byte at address a may be set next: the first anywhere, each other right after the one before, 256 at the most
abbrev pub Next : Filled → ℕ → Type 0
Next unfilled a = a < 2 ^ 32
Next (filled base n) a = (a ≡ above base n) × (n < 256)

abbrev pub set_at : Filled → ℕ → Filled
set_at unfilled a = filled a 1
set_at (filled base n) a = filled base (suc n)

-- With n fetches left and the bytes s set, on a board with those rights, the program fetches n times at the most, and sets a byte only where the
-- right to store was given and right after the bytes before; and where it gives x, with m fetches left and the bytes u set, Q m u x holds.
unfoldable pub Within : {A : Type 0} → (ℕ → Right) → ℕ → Filled → Program A → (ℕ → Filled → A → Type 0) → Type 0
Within rights n s (give x) Q = Q n s x
Within rights n s (refuse e) Q = Unit {0}
Within rights n s (fetch a k) Q = (0 < n) × ((b : ℕ) → Within rights (n - 1) s (k b) Q)
Within rights n s (ask a k) Q = writable (rights a) ≡ true → Within rights n s k Q
Within rights n s (put a b k) Q = (writable (rights a) ≡ true) × Next s a × Within rights n (set_at s a) k Q

-- the program fetches k times at the most, and sets nothing
abbrev pub Reads : {A : Type 0} → ℕ → Program A → Type 0
Reads k p = (rights : ℕ → Right) (n : ℕ) (s : Filled) → k ≤ n → Within rights n s p (λ m u _. (n ≤ m + k) × (u ≡ s))

-- the program of a whole step: n fetches at the most, and 256 bytes set in one run
abbrev pub Bounded : {A : Type 0} → ℕ → Program A → Type 0
Bounded n p = (rights : ℕ → Right) → Within rights n unfilled p (λ _ _ _. Unit {0})

-- P holds of each value that the program may give, whatever bytes it is answered
unfoldable pub Gives : {A : Type 0} → (A → Type 0) → Program A → Type 0
Gives P (give x) = P x
Gives P (refuse e) = Unit {0}
Gives P (fetch a k) = (b : ℕ) → b < 256 → Gives P (k b)
Gives P (ask a k) = Gives P k
Gives P (put a b k) = Gives P k
