use Rattle.std.proofs.Common.{Option, Ok, sym, ap, subst, fold, ◌∙◌}
use Rattle.image.specs.declared.reader.Piece.{Piece}
use Rattle.image.specs.declared.reader.Reader.{Reader}
use Rattle.image.specs.Digits.{spelled}
use Rattle.image.specs.Image.{of_ok, covered}
use Rattle.image.specs.Reading.{Steps, to_come, piece_cells}
use Rattle.image.proofs.Runs.{of_ok_front}
use Rattle.image.proofs.extent.extent_to_come.Goals as goal

pub loop-piece-smaller : goal.loop-piece-smaller
loop-piece-smaller c = (subst (λ (o : Option (Piece × Reader)). Steps c.loop-piece.reader (Ok o)) c.in-Some.is c.in_ok-piece.ensures).1

pub loop-piece-preserved : goal.loop-piece-preserved
loop-piece-preserved c =
    let step = (subst (λ (o : Option (Piece × Reader)). Steps c.loop-piece.reader (Ok o)) c.in-Some.is c.in_ok-piece.ensures).0 in
    let covers = c.covering-extent.ensures (spelled c.in-Some.piece.digits.now) (sym c.count_of.ensures.count) in
    ap (λ e. of_ok (fold covered e) (to_come c.in-Some.next)) covers
    ∙ sym (of_ok_front covered c.loop-piece.extent (piece_cells c.in-Some.piece) (to_come c.in-Some.next))
    ∙ sym (ap (of_ok (fold covered c.loop-piece.extent)) step)
    ∙ c.loop-piece.invariant
