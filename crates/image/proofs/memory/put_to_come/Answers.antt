use Rattle.std.proofs.Common.{ℕ, List, Option, Ok, sym, ap, subst, ◌∙◌}
use Rattle.image.specs.declared.reader.Piece.{Piece}
use Rattle.image.specs.declared.reader.Reader.{Reader}
use Rattle.image.specs.Image.{of_ok, put, filled}
use Rattle.image.specs.Reading.{Steps, to_come, piece_cells}
use Rattle.image.proofs.Runs.{of_ok_front}
use Rattle.image.proofs.memory.put_to_come.Goals as goal

pub loop-piece-preserved : goal.loop-piece-preserved
loop-piece-preserved c =
    let step = (subst (λ (o : Option (Piece × Reader)). Steps c.loop-piece.reader (Ok o)) c.in-Some.is c.in_ok-piece.ensures).0 in
    ap (λ (m : List ℕ). of_ok (filled c.args.base m) (to_come c.in-Some.next)) c.put_digits.ensures
    ∙ sym (of_ok_front (put c.args.base) c.loop-piece.memory (piece_cells c.in-Some.piece) (to_come c.in-Some.next))
    ∙ sym (ap (of_ok (filled c.args.base c.loop-piece.memory)) step)
    ∙ c.loop-piece.invariant
