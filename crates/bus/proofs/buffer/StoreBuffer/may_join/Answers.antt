use Rattle.std.proofs.Common.{◌≡◌, ◌&&◌, ◌||◌, eqb, ltb, sym, ap, ◌∙◌, arith, rules}
use Rattle.std.proofs.lemmas.Bool.Decides.{nat_tests}
use Rattle.bus.specs.Buffer.{offset, joins}
use Rattle.bus.proofs.Buffers.{joins_buffered}
use Rattle.bus.proofs.buffer.StoreBuffer.may_join.Goals as goal

pub returns-then-self-lt-CAPACITY : goal.returns-then-self-lt-CAPACITY
returns-then-self-lt-CAPACITY c =
    let s = c.self.inside in
    let a = c.args.address in
    let e = joins_buffered s.base s.len a s.bytes (search rules) (search rules) in
    let f : eqb (offset s.base a) s.len ≡ (eqb s.len 0 || (ltb s.len 256 && eqb (offset s.base a) s.len)) = grind (arith, nat_tests) in
    f ∙ (sym e ∙ ap (λ cs. joins cs a) c.self.view_is)

pub returns-else-self-lt-CAPACITY : goal.returns-else-self-lt-CAPACITY
returns-else-self-lt-CAPACITY c =
    let s = c.self.inside in
    let a = c.args.address in
    let e = joins_buffered s.base s.len a s.bytes (search rules) (search rules) in
    let f : ltb s.len 256 ≡ (eqb s.len 0 || (ltb s.len 256 && eqb (offset s.base a) s.len)) = grind (arith, nat_tests) in
    f ∙ (sym e ∙ ap (λ cs. joins cs a) c.self.view_is)
