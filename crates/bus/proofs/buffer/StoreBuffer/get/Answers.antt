use Rattle.std.proofs.Common.{◌≤◌, length, take, ap, ◌∙◌, arith, rules}
use Rattle.std.proofs.lemmas.List.{length-take-le}
use Rattle.bus.specs.Buffer.{last_set}
use Rattle.bus.proofs.Buffers.{looked_up}
use Rattle.bus.proofs.buffer.StoreBuffer.get.Goals as goal

pub returns : goal.returns
returns c =
    let s = c.self.inside in
    let bs = take s.len s.bytes in
    let few : length bs ≤ 256 = omega (arith, length-take-le s.len s.bytes (search rules)) in
    c.copied.ensures ∙ (looked_up s.base c.args.address (search rules) (search rules) bs c.get.result few c.get.ensures.lookup ∙ ap (last_set c.args.address) c.self.view_is)
