-- What the bus of a step shows while the code of a step works on it.
use Rattle.std.specs.Prelude.{ℕ}
use Rattle.board.specs.declared.Right.{Right}
use Rattle.bus.specs.declared.step.StepBus.{StepBus}
use Rattle.bus.specs.Seen.{Seen, step_seen}

-- on a board with those rights and bytes
abbrev pub bus_seen : {B : Type 0} → (B → ℕ → Right) → (B → ℕ → ℕ) → StepBus B → Seen
bus_seen rights bytes b = step_seen (rights b.board.now) (bytes b.board.now) b.reads b.used b.writes.now b.buffer
