use Rattle.std.proofs.Common.{◌∙◌}
use Rattle.board.proofs.Copies.{turn_stops, turn_ends}
use Rattle.board.proofs.block.copy_block.Goals as goal

pub returns-in_default : goal.returns-in_default
returns-in_default g c =
    let inv = c.loop-i.invariant in
    record { rights = inv.0; copied = turn_ends _ _ _ _ _ _ _ _ inv.0 c.loop-i-test.true inv.1 c.in_default.ensures.answer }

pub returns-then-not-store : goal.returns-then-not-store
returns-then-not-store g c =
    let inv = c.loop-i.invariant in
    record {
      rights = c.store.ensures.rights ∙ inv.0;
      copied = turn_stops _ _ _ _ _ _ _ _ _ _ inv.0 c.loop-i-test.true inv.1 c.in-Some.ensures.answer c.if-not-store.ensures.answer c.store.ensures.bytes;
    }
