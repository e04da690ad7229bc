-- Regions: stretches of addresses with one right.
use Rattle.std.specs.Prelude.{◌≡◌, ℕ, ◌+◌, ◌^◌, ◌<◌, ◌≤◌, ◌≢◌}

-- e is the last address of the region that a lies in, by what each address has (a right): it is the same from a to e, and another after e
pub record RegionEnd {X : Type 0} (has : ℕ → X) (a e : ℕ) : Type 0 where
  pub onward : a ≤ e
  pub within : e < 2 ^ 32
  pub same : (x : ℕ) → a ≤ x → x ≤ e → has x ≡ has a
  pub differs : e + 1 < 2 ^ 32 → has (e + 1) ≢ has a
