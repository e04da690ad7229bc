-- Text padded to a width: what a formatter's options write.
use Rattle.std.proofs.Common.{◌≡◌, ℕ, ◌-◌, ◌^◌, false, List, [], ◌++◌, length, replicate, refl, append-nil, arith}
use Rattle.std.proofs.lemmas.Grind.{common_steps}
use Rattle.std.specs.Prelude.{codes}
use Rattle.std.specs.Fmt.{padded, padded_integral, take_chars, char_count, format_spec}
use Rattle.printout.specs.Text.{in_column}

-- zeros before digits
pub padded_digits : (width : ℕ) (ds : List ℕ) → padded_integral (format_spec 32 0 4 width (2 ^ 64 - 1)) false [] ds ≡ replicate (width - length ds) 48 ++ ds
unfolding padded_integral char_count
padded_digits width ds = let e : width - length ds - 0 - 0 ≡ width - length ds = omega arith in λ i. replicate (e i) 48 ++ append-nil ds i

-- spaces after the name of a right
pub padded_read : padded (format_spec 32 1 0 10 (2 ^ 64 - 1)) (codes "read") ≡ in_column (codes "read")
unfolding padded take_chars char_count lib.Utf8.encode
padded_read = refl

pub padded_read_write : padded (format_spec 32 1 0 10 (2 ^ 64 - 1)) (codes "read-write") ≡ in_column (codes "read-write")
unfolding padded take_chars char_count lib.Utf8.encode
padded_read_write = refl

-- what a printed text needs: these, and the usual lemmas
pub ruleset printed = (common_steps, padded_digits, padded_read, padded_read_write)
