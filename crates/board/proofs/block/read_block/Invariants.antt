use Rattle.std.proofs.Common.{◌≡◌, ℕ, ◌<◌, get_or, None}
use Rattle.board.specs.Meaning.{fetched}
use Rattle.board.specs.Block.{above}
use Rattle.board.proofs.block.read_block.Given as goal

abbrev pub invariant-loop-cell : goal.invariant-loop-cell
invariant-loop-cell g l =
    (l.address ≡ above l.from l.cell-index)
    × ((k : ℕ) → k < l.cell-index → get_or l.cells k None ≡ fetched (g.B.Board.rights l.board (above l.from k)) (g.B.Board.bytes l.board (above l.from k)))
