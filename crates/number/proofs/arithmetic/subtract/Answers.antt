use Rattle.std.proofs.Common.{◌≡◌, ◌*◌, pos, ℤ, ◌-ℤ◌, int_lt, of_z, to_z, w64, ap, ◌∙◌, arith}
use Rattle.std.proofs.lemmas.Int.{ints}
use Rattle.std.specs.Int.{from_bool}
use Rattle.number.specs.Words.{signed, fits, residue}
use Rattle.number.proofs.Spans.{flag}
use Rattle.number.proofs.arithmetic.subtract.Goals as goal

pub returns : goal.returns
returns g c =
    let w = 8 * g.W.Width.size in
    let dst = g.W.Width.value c.args.dst in
    let src = g.W.Width.value c.args.src in
    let borrow : ℤ = pos (from_bool c.args.borrow) in
    let word : ℤ → ℤ = λ z. to_z w64 (of_z w64 z) in
    let same : word (word (word c.from.result -ℤ word c.from-2.result) -ℤ word c.from-3.result) ≡ pos dst -ℤ pos src -ℤ borrow =
    omega (arith, ints, flag c.args.borrow)
    in
    let left : g.W.Width.value c.low_signed.result ≡ residue w (pos dst -ℤ pos src -ℤ borrow) = c.low_signed.ensures ∙ ap (residue w) same in
    let less = ap (λ z. int_lt z (pos 0)) same in
    let exact : c.fits.result ≡ fits w (signed w dst -ℤ signed w src -ℤ borrow) = c.fits.ensures ∙ ap (fits w) (omega (arith, ints, flag c.args.borrow)) in
    c.with_flags.ensures ∙ (cc)
