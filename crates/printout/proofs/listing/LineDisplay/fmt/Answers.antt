use Rattle.std.proofs.Common.{◌≡◌, ℕ, ◌-◌, ◌^◌, true, false, List, [], Some, Option, ap, ◌∙◌, rules}
use Rattle.std.specs.Fmt.{digits, padded_integral, format_spec, styled_digits_output}
use Rattle.printout.specs.Text.{digits_of_width}
use Rattle.printout.proofs.Columns.{padded_digits}
use Rattle.printout.proofs.listing.LineDisplay.fmt.Goals as goal

pub returns-in-Err-clause-writes : goal.returns-in-Err-clause-writes
returns-in-Err-clause-writes g c =
    let ds = digits 16 true c.args.self.now.pc in
    let e : ◌≡◌ {A = Option (List ℕ)} (styled_digits_output c.in_radix-in-Err.result c.laid_out-in-Err.result) (Some (padded_integral (format_spec 32 0 4 8 (2 ^ 64 - 1)) false [] ds)) = search rules in
    let t : ◌≡◌ {A = Option (List ℕ)} (styled_digits_output c.in_radix-in-Err.result c.laid_out-in-Err.result) (Some (digits_of_width 8 c.args.self.now.pc)) = e ∙ ap Some (padded_digits 8 ds) in
    rw c.in-Err.is (rw t at c.write-in-Err.ensures.writes)
