use Rattle.std.proofs.Common.{◌≡◌, ◌*◌, pos, ◌+ℤ◌, ap, ◌∙◌, arith, rules}
use Rattle.std.proofs.lemmas.Int.{ints}
use Rattle.std.specs.Int.{from_bool}
use Rattle.number.specs.Words.{signed, fits}
use Rattle.number.proofs.Spans.{flag}
use Rattle.number.proofs.arithmetic.add.Goals as goal

pub returns : goal.returns
returns g c =
    let w = 8 * g.W.Width.size in
    let exact : c.fits.result ≡ fits w (signed w (g.W.Width.value c.args.dst) +ℤ signed w (g.W.Width.value c.args.src) +ℤ pos (from_bool c.args.carry)) =
    c.fits.ensures ∙ ap (fits w) (omega (arith, ints, flag c.args.carry))
    in
    search rules
