use Rattle.std.specs.Fmt.{HasWritten, IsPlainFormatter}
use Rattle.printout.specs.Text.{rows_text}
use Rattle.printout.proofs.cells.RowsDisplay.fmt.Given as goal

abbrev pub invariant-loop-row : goal.invariant-loop-row
invariant-loop-row g l =
    IsPlainFormatter l.fn.f → HasWritten g.W.Write.write_str_gives l.fn.f (rows_text (g.B.Board.rights l.self.board.now) (g.B.Board.bytes l.self.board.now) l.self.from l.row) l.f
