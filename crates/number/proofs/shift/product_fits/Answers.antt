use Rattle.std.proofs.Common.{◌*◌, rules}
use Rattle.number.proofs.Spans.{fits_above, fits_below}
use Rattle.number.proofs.shift.product_fits.Goals as goal

pub returns-then-n-sign : goal.returns-then-n-sign
returns-then-n-sign g c = search (rules, fits_above (8 * g.W.Width.size) (g.W.Width.value c.args.x) c.args.by)

pub returns-else-n-sign : goal.returns-else-n-sign
returns-else-n-sign g c = search (rules, fits_below (8 * g.W.Width.size) (g.W.Width.value c.args.x) c.args.by)
