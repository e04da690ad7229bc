use Rattle.std.proofs.Common.{◌≡◌, List, ℕ, [], sym, ap, subst, arith}
use Rattle.bus.specs.Bound.{Bounded}
use Rattle.bus.specs.Program.{World, Trail, runs}
use Rattle.bus.proofs.Room.{room_for}
use Rattle.bus.proofs.Enough.{enough_bounded, enough_reads}
use Rattle.instruction.specs.Build.{as_decoded}
use Rattle.instruction.specs.Formats.{decode}
use Rattle.instruction.proofs.Fetches.{reads_decode}
use Rattle.printout.proofs.listing.decode_on.Goals as goal

pub returns : goal.returns
returns g c =
    let p = decode c.args.pc in
    let w : World = record { rights = g.B.Board.rights c.args.board.now; bytes = g.B.Board.bytes c.args.board.now; writes = [] } in
    let t : List (ℕ × ℕ) → Trail = λ own. record { reads = []; own = own } in
    let bounded : Bounded 22 p = enough_bounded 22 22 p (omega arith) (enough_reads 22 p (reads_decode c.args.pc)) in
    let comes = c.decode.ensures.comes (room_for 22 22 p w (t c.new.result) bounded c.new.ensures (omega arith)).0 in
    sym (subst (λ own. (runs p w (t own)).0 ≡ as_decoded c.args.pc c.decode.result) c.new.ensures (ap (λ x. x.0) comes))
