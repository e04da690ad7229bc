use Rattle.std.proofs.Common.{◌*◌, ◌≤◌, lt_of_lt_of_le, pow_mono, arith, rules}
use Rattle.number.proofs.Bytes.{byte_at_place}
use Rattle.number.proofs.width.Width.byte.Goals as goal

pub returns : goal.returns
returns g c =
    let narrow = g.met.Self.Width.narrow in
    let wide : 8 * g.Self.Width.size ≤ 64 = omega arith in
    let e = byte_at_place c.to_u64.result c.args.i (lt_of_lt_of_le c.to_u64.ensures.bound (pow_mono wide)) in
    search rules
