use Rattle.std.proofs.Common.{◌≡◌, ◌+◌, ◌^◌, ◌≤◌, length}
use Rattle.image.specs.Texts.{cells}
use Rattle.image.specs.Image.{filled}
use Rattle.image.proofs.memory.put_bytes.Given as goal

abbrev pub invariant-loop-rest : goal.invariant-loop-rest
invariant-loop-rest l = record {
  room : l.address + length l.rest ≤ 2 ^ 32;
  done : filled l.base l.memory (cells l.address l.rest) ≡ filled l.base l.fn.memory (cells l.start l.bytes);
}

abbrev pub decreases-loop-rest : goal.decreases-loop-rest
decreases-loop-rest l = length l.rest
