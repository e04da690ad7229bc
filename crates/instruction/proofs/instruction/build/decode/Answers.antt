use Rattle.std.proofs.Common.{◌^◌, ◌<◌, rules}
use Rattle.bus.proofs.Values.{of_leads}
use Rattle.instruction.specs.Formats.{decode}
use Rattle.instruction.proofs.FineFormats.{Made, decoded_lawful}
use Rattle.instruction.proofs.instruction.build.decode.Goals as goal

pub invariant_of-result : goal.invariant_of-result
invariant_of-result g c =
    let low : c.args.pc < 2 ^ 32 = search rules in
    record { ok = of_leads (Made c.args.pc low) (decode c.args.pc) c.in_ok-decoded.decoded (decoded_lawful c.args.pc low) c.in_ok-decoded.ensures.leads }
