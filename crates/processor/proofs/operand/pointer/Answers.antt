use Rattle.std.proofs.Common.{◌^◌, ◌<◌}
use Rattle.bus.specs.Wide.{fetch_number}
use Rattle.bus.proofs.Values.{of_leads, values_number}
use Rattle.processor.proofs.operand.pointer.Goals as goal

pub returns : goal.returns
returns g c =
    let h = c.in_ok-word.ensures in
    let l : c.in_ok-word.word < 2 ^ 32 = of_leads (λ x. x < 256 ^ 4) (fetch_number 4 c.args.address) c.in_ok-word.word (values_number 4 c.args.address) h.leads in
    rw (c.low.ensures.exact l) h
