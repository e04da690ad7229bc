use Rattle.std.proofs.Common.{◌≡◌, ◌^◌, ◌≤◌, min, drop, option_map}
use Rattle.script.specs.Numbers.{with_digits}
use Rattle.script.proofs.number.number_up_to_limit.Given as goal

-- what is left to read makes of the number so far what the whole word makes
abbrev pub invariant-loop-byte : goal.invariant-loop-byte
invariant-loop-byte l = (l.number ≤ 2 ^ 32) × (option_map (λ n. min n (2 ^ 32)) (with_digits l.number (drop l.byte-index l.word)) ≡ option_map (λ n. min n (2 ^ 32)) (with_digits 0 l.word))
