use Rattle.std.proofs.Common.{◌≡◌, ◌-◌, length, take}
use Rattle.script.specs.Words.{words}
use Rattle.script.specs.Fields.{readings_at}
use Rattle.script.proofs.ReadingsLemmas.{with_front}
use Rattle.script.proofs.fields.readings.Given as goal

abbrev pub invariant-loop-i : goal.invariant-loop-i
invariant-loop-i l = (length l.readings ≡ 16) × (with_front (take l.i l.readings) (readings_at (16 - l.i) l.name (words l.rest)) ≡ readings_at 16 l.name (words l.fn.line))
