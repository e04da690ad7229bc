use Rattle.std.proofs.Common.{◌≡◌, ◌+◌, ◌<◌, ◌++◌, length, get_or, take, sym, ap, ◌∙◌, arith, rules}
use Rattle.std.proofs.lemmas.List.{drop-set-lt, length-take-le, take_all}
use Rattle.board.specs.Block.{above}
use Rattle.bus.specs.declared.line.WriteLine.{WriteLine}
use Rattle.bus.specs.Buffer.{buffered, cells}
use Rattle.bus.specs.Commit.{stores, write_lines, has_room}
use Rattle.bus.specs.Form.{length_buffered}
use Rattle.bus.proofs.Commits.{stores_more, lines_more, length_lines, entered_by}
use Rattle.bus.proofs.buffer.StoreBuffer.commit.Goals as goal

pub returns-then-not-fits-clause-answer : goal.returns-then-not-fits-clause-answer
returns-then-not-fits-clause-answer g c =
    let s = c.self.inside in
    let n = length_buffered s.base s.len s.bytes (search rules) in
    c.if-not-fits.ensures ∙ ap (λ k. has_room c.args.used k c.args.writes.now) (sym n ∙ ap length c.self.view_is)

pub loop-i-preserved : goal.loop-i-preserved
loop-i-preserved g c =
    let s = c.self.inside in
    let bs = take s.len s.bytes in
    let i = c.loop-i.i in
    let ws = c.loop-i.writes in
    let u = c.args.used in
    let inv = c.loop-i.invariant in
    let x : WriteLine = record { step = c.args.step; address = above s.base i; byte = get_or bs i 0 } in
    let few : i < length bs = search rules in
    let room : u + i < length ws = search rules in (
      (c.store.ensures.rights ∙ inv.0.0, stores_more s.base bs _ _ _ _ _ i few inv.0.0 inv.0.1 c.store.ensures.bytes),
      (lines_more s.base bs c.args.step u i _ ws few room inv.1.0, drop-set-lt (u + s.len) ws (u + i) x (omega arith) ∙ inv.1.1),
    )

pub returns : goal.returns
returns g c =
    let s = c.self.inside in
    let bs = take s.len s.bytes in
    let inv = c.loop-i.invariant in
    let n = length_buffered s.base s.len s.bytes (search rules) in
    let m : length bs ≡ s.len = length-take-le s.len s.bytes (search rules) in
    let k : c.loop-i.i ≡ s.len = omega arith in
    let e : buffered s.base c.loop-i.i bs ≡ c.args.self.now = ap (cells s.base 0) (take_all c.loop-i.i bs (omega arith)) ∙ c.self.view_is in
    record {
      answer = c.if-not-fits.ensures ∙ ap (λ k. has_room c.args.used k c.args.writes.now) (sym n ∙ ap length c.self.view_is);
      rights = inv.0.0;
      bytes = inv.0.1 ∙ ap (λ cs. stores (g.B.Board.rights c.args.board.now) cs (g.B.Board.bytes c.args.board.now)) e;
      lines = entered_by c.args.used s.len (write_lines c.args.step c.args.self.now) c.args.writes.now c.loop-i.writes
          (length_lines c.args.step c.args.self.now ∙ (ap length (sym c.self.view_is) ∙ n))
          (ap (λ k. take (c.args.used + k) c.loop-i.writes) (sym k) ∙ (inv.1.0 ∙ ap (λ cs. take c.args.used c.args.writes.now ++ write_lines c.args.step cs) e))
          inv.1.1;
    }
