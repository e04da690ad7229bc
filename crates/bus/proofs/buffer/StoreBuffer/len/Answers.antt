use Rattle.std.proofs.Common.{◌≤◌, length, take, sym, ap, ◌∙◌, arith, rules}
use Rattle.std.proofs.lemmas.List.{length-take-le}
use Rattle.bus.specs.Form.{length_buffered}
use Rattle.bus.proofs.buffer.StoreBuffer.len.Goals as goal

pub returns-clause-count : goal.returns-clause-count
returns-clause-count c = let s = c.self.inside in sym (length_buffered s.base s.len s.bytes (search rules)) ∙ ap length c.self.view_is

pub returns-clause-run : goal.returns-clause-run
returns-clause-run c =
    let s = c.self.inside in
    record {
      base = s.base;
      bytes = take s.len s.bytes;
      low = search rules;
      few = omega (arith, length-take-le s.len s.bytes (search rules));
      is = sym c.self.view_is;
    }
