-- Stretches of addresses with one right, which may go on after their end.
use Rattle.std.specs.Prelude.{◌≡◌, ℕ, ◌^◌, ◌<◌, ◌≤◌}

-- each address from a to e has what a has (a right)
pub record Stretch {X : Type 0} (has : ℕ → X) (a e : ℕ) : Type 0 where
  pub onward : a ≤ e
  pub within : e < 2 ^ 32
  pub same : (x : ℕ) → a ≤ x → x ≤ e → has x ≡ has a
