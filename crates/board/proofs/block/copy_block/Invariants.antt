use Rattle.std.proofs.Common.{◌≡◌}
use Rattle.board.specs.Block.{copied}
use Rattle.board.proofs.block.copy_block.Given as goal

abbrev pub invariant-loop-i : goal.invariant-loop-i
invariant-loop-i g l =
    (g.B.Board.rights l.board ≡ g.B.Board.rights l.initial.board)
    × (copied (g.B.Board.rights l.initial.board) l.from l.to l.i (g.B.Board.bytes l.initial.board) ≡ (l.i, g.B.Board.bytes l.board))
