use Rattle.std.proofs.Common.{◌≡◌, ◌+◌, ◌*◌, ◌^◌, min, drop, option_map, arith, ap, sym, ◌∙◌}
use Rattle.script.proofs.NumberLemmas.{capped, read_one}
use Rattle.script.proofs.number.number_up_to_limit.Goals as goal

pub loop-byte-preserved : goal.loop-byte-preserved
loop-byte-preserved c =
    let a = 16 * c.loop-byte.number + c.in_ok-digit.digit in
    let kept : min c.min-number.result (2 ^ 32) ≡ min a (2 ^ 32) = omega arith in (
      omega arith,
      capped (2 ^ 32) c.min-number.result a (drop (c.loop-byte.byte-index + 1) c.args.word.now) kept
          ∙ sym (ap (option_map (λ n. min n (2 ^ 32))) (read_one c.loop-byte.number c.in_ok-digit.digit c.args.word.now c.loop-byte.byte-index c.loop-byte-test.true (sym c.in_ok-digit.ensures)))
          ∙ c.loop-byte.invariant.1,
    )
