use Rattle.std.proofs.Common.{◌≡◌, take}
use Rattle.bus.specs.Sheets.{names}
use Rattle.bus.proofs.line.names.Given as goal

abbrev pub invariant-loop-line : goal.invariant-loop-line
invariant-loop-line g l = l.found ≡ names g.L.Line.at l.address (take l.line-index l.lines)
