use Rattle.std.proofs.Common.{◌<◌, ◌^◌, subst, arith}
use Rattle.board.specs.Region.{RegionEnd}
use Rattle.assembly.specs.Banks.{bank_meaning}
use Rattle.assembly.proofs.Stretches.{stretch_of_bank}
use Rattle.assembly.specs.declared.bank.Bank.{Bank}
use Rattle.assembly.proofs.made.Assembly.stretch_end.Goals as goal

pub returns : goal.returns
returns c =
    let ends : Bank → Type 0 = λ b. RegionEnd (bank_meaning b).rights c.args.address c.region_end-end.result in
    let region = subst ends c.bank.ensures c.region_end-end.ensures in
    let fits : c.args.address < 2 ^ 32 = omega arith in
    rw c.min.ensures (stretch_of_bank c.args.address _ _ c.args.self.now.first c.args.self.now.joints.items fits region c.before_joint.ensures)
