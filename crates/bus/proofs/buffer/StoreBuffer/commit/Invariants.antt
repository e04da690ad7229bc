use Rattle.std.proofs.Common.{◌≡◌, ◌+◌, ◌++◌, take, drop}
use Rattle.bus.specs.Buffer.{buffered}
use Rattle.bus.specs.Commit.{stores, write_lines}
use Rattle.bus.proofs.buffer.StoreBuffer.commit.Given as goal

abbrev pub invariant-loop-i : goal.invariant-loop-i
invariant-loop-i g l =
    let done = buffered l.self-inside.base l.i (take l.self-inside.len l.self-inside.bytes) in
    ((g.B.Board.rights l.board ≡ g.B.Board.rights l.initial.board)
    × (g.B.Board.bytes l.board ≡ stores (g.B.Board.rights l.initial.board) done (g.B.Board.bytes l.initial.board)))
    × ((take (l.used + l.i) l.writes ≡ take l.used l.initial.writes ++ write_lines l.step done)
    × (drop (l.used + l.self-inside.len) l.writes ≡ drop (l.used + l.self-inside.len) l.initial.writes))
