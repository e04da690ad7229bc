use Rattle.std.proofs.Common.{length, sym, refl, subst}
use Rattle.bus.specs.Seen.{Later}
use Rattle.execute.proofs.Bounds.{step_bounded}
use Rattle.session.proofs.Attempts.{tried, storable, few}
use Rattle.session.proofs.Steps.{free_reads}
use Rattle.session.proofs.attempt.try_step.Goals as goal

pub returns : goal.returns
returns g c =
    let h = c.on_bus-outcome.ensures in
    let e = c.reads-1.given.1.0 (sym h.loan) in
    let b = step_bounded c.args.machine.now.cpu in
    let l = few c.args.machine.now.read c.args.reads.now (free_reads (length c.args.reads.now) (length c.args.writes.now) c.args.machine.now c.requires) in
    record {
      comes = tried h b c.new.ensures l _ e refl _ refl;
      stores = storable h b c.new.ensures l;
      later = subst (Later _ _ _) (sym e) h.later;
    }
