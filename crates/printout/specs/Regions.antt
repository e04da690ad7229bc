-- The regions of a board, told one after another.
use Rattle.std.specs.Prelude.{◌≡◌, ℕ, ◌+◌, ◌-◌, ◌^◌, ◌==◌, Some, None, Option, IsSomeAnd, if◌then◌else◌}
use Rattle.board.specs.declared.Right.{Right}
use Rattle.board.specs.Block.{fetches}
use Rattle.board.specs.Region.{RegionEnd}
use Rattle.printout.specs.declared.region.Region.{Region}

-- the address after the last one of a region, where there is one
abbrev pub address_after : ℕ → Option ℕ
address_after e = if e + 1 == 2 ^ 32 then None else Some (e + 1)

-- r is the region of a board that begins at address a
pub record IsRegion (rights : ℕ → Right) (bytes : ℕ → ℕ) (a : ℕ) (r : Region) : Type 0 where
  pub first : r.first ≡ a
  pub last : RegionEnd rights a r.last
  pub right : r.right ≡ rights a
  pub cells : r.cells ≡ fetches rights bytes a 8

-- the region that begins at the next address is told, and then the address after it is next; or nothing is left
abbrev pub TellsRegion : (ℕ → Right) → (ℕ → ℕ) → Option ℕ → Option Region → Option ℕ → Type 0
TellsRegion rights bytes None r next = (r ≡ None) × (next ≡ None)
TellsRegion rights bytes (Some a) r next = IsSomeAnd r (λ x. IsRegion rights bytes a x × (next ≡ address_after x.last))

-- how many addresses are left from the next one on
abbrev pub addresses_left : Option ℕ → ℕ
addresses_left None = 0
addresses_left (Some a) = 2 ^ 32 - a
