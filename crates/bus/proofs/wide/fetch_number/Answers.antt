use Rattle.std.proofs.Common.{◌≡◌, ◌<◌, ◌≤◌, ◌≢◌, length, sym, refl, ◌∙◌, arith, rules, length-set, get_or-set_other}
use Rattle.number.specs.declared.width.Size.{Size}
use Rattle.number.specs.declared.width.Size.TheVariants.{Byte, Halfword, Word, Doubleword}
use Rattle.number.specs.Sizes.{byte_count}
use Rattle.number.specs.Words.{from_bytes}
use Rattle.bus.specs.Wide.{fetch_number}
use Rattle.bus.proofs.Bytes.{from_bytes_more, from_bytes_all, zeros}
use Rattle.bus.proofs.Laws.{times_none, times_more, times_ends, hands_on, goes_on, ends_at, gives}
use Rattle.bus.proofs.wide.fetch_number.Goals as goal

at_most_eight : (s : Size) → byte_count s ≤ 8
at_most_eight Byte = omega arith
at_most_eight Halfword = omega arith
at_most_eight Word = omega arith
at_most_eight Doubleword = omega arith

pub loop-i-init : goal.loop-i-init
loop-i-init g c = (times_none _ 0, refl, λ k h. zeros 8 k)

pub loop-i-preserved : goal.loop-i-preserved
loop-i-preserved g c =
    let m = at_most_eight c.args.size in
    let bs = c.loop-i.bytes in
    let i = c.loop-i.i in
    let inv = c.loop-i.invariant in
    let few : i < length bs = omega (arith, inv.1) in (
      times_more _ 0 _ inv.0 (goes_on _ c.in_ok-bytes.ensures (gives (sym (from_bytes_more i bs c.in_ok-bytes.field-0 few)))),
      length-set bs i c.in_ok-bytes.field-0 ∙ inv.1,
      λ k h. let ne : k ≢ i = omega arith in rw get_or-set_other (inv.2 k (omega arith)),
    )

pub returns-in_err-bytes : goal.returns-in_err-bytes
unfolding fetch_number
returns-in_err-bytes g c = hands_on c.from_residual.ensures.1 (times_ends _ 0 _ _ (omega arith) (times_more _ 0 _ c.loop-i.invariant.0 (ends_at _ c.in_err-bytes.ensures)))

pub returns : goal.returns
unfolding fetch_number
returns g c =
    let m = at_most_eight c.args.size in
    let n : c.loop-i.i ≡ byte_count c.args.size = omega arith in
    let e : c.from_le_bytes.result ≡ from_bytes (byte_count c.args.size) c.loop-i.bytes =
    c.from_le_bytes.ensures ∙ (search rules ∙ from_bytes_all (byte_count c.args.size) 8 c.loop-i.bytes m (λ k h. c.loop-i.invariant.2 k (omega arith))) in
    rw e (rw n at c.loop-i.invariant.0)
