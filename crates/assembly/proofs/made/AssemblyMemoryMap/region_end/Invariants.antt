use Rattle.std.proofs.Common.{◌-◌}
use Rattle.assembly.specs.Made.{meaning_of}
use Rattle.assembly.specs.Stretch.{Stretch}
use Rattle.assembly.proofs.made.AssemblyMemoryMap.region_end.Given as goal

abbrev pub invariant-loop-end : goal.invariant-loop-end
invariant-loop-end l = Stretch (meaning_of l.self).rights l.address l.end

abbrev pub decreases-loop-end : goal.decreases-loop-end
decreases-loop-end l = 4294967295 - l.end
