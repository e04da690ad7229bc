use Rattle.std.proofs.Common.{◌≡◌, ℕ, ◌-◌, ◌^◌, true, false, List, [], ◌++◌, length, replicate, Some, Option, ap, ◌∙◌, append-nil, arith, rules}
use Rattle.std.specs.Fmt.{padded_integral, char_count, format_spec, styled_digits_output, digits}
use Rattle.bus.specs.Refusals.{eight_digits}
use Rattle.bus.proofs.refusal.RefusalDisplay.fmt.Goals as goal

-- what a width of eight under `0` adds to a number's digits
padded_to_eight : (ds : List ℕ) → padded_integral (format_spec 32 0 4 8 (2 ^ 64 - 1)) false [] ds ≡ replicate (8 - length ds) 48 ++ ds
unfolding padded_integral char_count
padded_to_eight ds = let e : 8 - length ds - 0 - 0 ≡ 8 - length ds = omega arith in λ i. replicate (e i) 48 ++ append-nil ds i

pub returns-clause-writes : goal.returns-clause-writes
returns-clause-writes g c =
    let ds = digits 16 true c.place-place.result in
    let e : ◌≡◌ {A = Option (List ℕ)} (styled_digits_output c.in_radix.result c.laid_out.result) (Some (padded_integral (format_spec 32 0 4 8 (2 ^ 64 - 1)) false [] ds)) = search rules in
    let t : ◌≡◌ {A = Option (List ℕ)} (styled_digits_output c.in_radix.result c.laid_out.result) (Some (eight_digits c.place-place.result)) = e ∙ ap Some (padded_to_eight ds) in
    rw (t, c.number-number.ensures, c.place-place.ensures) at c.write.ensures.writes
