-- What a board means: a right and a byte for each address, and what asking, fetching and storing answer by them.
use Rattle.std.specs.Prelude.{ℕ, ◌-◌, ◌/◌, ◌%◌, ◌^◌, ◌<◌, Bool, true, false, cond, ◌&&◌, List, Some, None, Option, ◌==◌, nat_le, nat_lt, slice_index}
use Rattle.board.specs.declared.Right.{Right}
use Rattle.board.specs.declared.Right.TheVariants.{NoAccess, ReadOnly, ReadWrite}

-- what a fetch answers where the right is r and the byte is b
abbrev pub fetched : Right → ℕ → Option ℕ
fetched NoAccess b = None
fetched ReadOnly b = Some b
fetched ReadWrite b = Some b

-- whether a store succeeds where the right is r
abbrev pub writable : Right → Bool
writable NoAccess = false
writable ReadOnly = false
writable ReadWrite = true

-- where there is a right, the byte is below 256
abbrev pub ByteSized : Right → ℕ → Type 0
ByteSized NoAccess b = Unit {0}
ByteSized ReadOnly b = b < 256
ByteSized ReadWrite b = b < 256

-- the bytes f once address a holds b: all others are unchanged
abbrev pub changed : ℕ → ℕ → (ℕ → ℕ) → ℕ → ℕ
changed a b f x = cond (x == a) b (f x)

-- the bytes f after a store of b at a, where the right is r: a refused store changes nothing
abbrev pub stored : Right → ℕ → ℕ → (ℕ → ℕ) → ℕ → ℕ
stored r a b f x = cond (writable r) (changed a b f x) (f x)

-- whether a is one of the n addresses from base on; none lies past FFFFFFFFh, and none wraps round to 0
abbrev pub covers : ℕ → ℕ → ℕ → Bool
covers base n a = nat_le base a && (nat_lt (a - base) n && nat_lt a (2 ^ 32))

-- the place of address a among the n addresses from base on
abbrev pub place : ℕ → ℕ → ℕ → Option ℕ
place base n a = cond (covers base n a) (Some (a - base)) None

-- the right r at the n addresses from base on, and no access elsewhere
abbrev pub over : Right → ℕ → ℕ → ℕ → Right
over r base n a = cond (covers base n a) r NoAccess

-- the byte at address a of n cells from base on
abbrev pub held : ℕ → ℕ → (ℕ → ℕ) → ℕ → ℕ
held base n cells a = cond (covers base n a) (cells (a - base)) 0

-- byte i of 16-bit readings, the low byte of each first
abbrev pub reading_byte : List ℕ → ℕ → ℕ
reading_byte readings i = cond (i % 2 == 0) (slice_index readings (i / 2) % 256) (slice_index readings (i / 2) / 256)

-- one meaning below the address at, another from it on
abbrev pub cut : {X : Type 0} → ℕ → (ℕ → X) → (ℕ → X) → ℕ → X
cut at lower upper a = cond (nat_lt a at) (lower a) (upper a)
