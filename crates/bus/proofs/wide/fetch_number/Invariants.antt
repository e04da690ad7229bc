use Rattle.std.proofs.Common.{◌≡◌, ℕ, ◌+◌, ◌*◌, ◌^◌, ◌≤◌, length, get_or, Ok}
use Rattle.board.specs.Block.{above}
use Rattle.number.specs.Words.{from_bytes}
use Rattle.bus.specs.Program.{give, ◌>>=◌, fetch_byte, times}
use Rattle.bus.specs.Seen.{Runs}
use Rattle.bus.proofs.wide.fetch_number.Given as goal

abbrev pub invariant-loop-i : goal.invariant-loop-i
invariant-loop-i g l =
    Runs (times l.i (λ i low. fetch_byte (above l.address i) >>= λ b. give (low + b * 256 ^ i)) 0) (g.B.Bus.seen l.initial.bus) (Ok (from_bytes l.i l.bytes)) (g.B.Bus.seen l.bus)
    × (length l.bytes ≡ 8)
    × ((k : ℕ) → l.i ≤ k → get_or l.bytes k 0 ≡ 0)
