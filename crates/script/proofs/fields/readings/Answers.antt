use Rattle.std.proofs.Common.{◌≡◌, ◌<◌, ◌+◌, [], ◌∷◌, ◌++◌, length, take, set, sym, arith}
use Rattle.std.proofs.lemmas.Grind.{common_steps}
use Rattle.std.proofs.lemmas.Result.{err_from_is_err_and}
use Rattle.std.proofs.lemmas.List.{take_all, take_more_set}
use Rattle.script.specs.Words.{words}
use Rattle.script.specs.Fields.{readings_at}
use Rattle.script.proofs.ReadingsLemmas.{goes_on, stops, is_done}
use Rattle.script.proofs.fields.readings.Goals as goal

pub returns-in_err-reading : goal.returns-in_err-reading
returns-in_err-reading c =
    let p = err_from_is_err_and c.from_residual.result c.from_residual.ensures.1 in
    rw (p.1, p.2) (sym (stops c.in_err-reading.field-0.0 (take c.loop-i.i c.loop-i.readings) c.args.name 16 c.loop-i.i (words c.loop-i.rest.now) (readings_at 16 c.args.name (words c.args.line.now)) c.loop-i-test.true (sym c.in_err-reading.ensures) c.loop-i.invariant.1))

pub loop-i-preserved : goal.loop-i-preserved
loop-i-preserved c =
    let i = c.loop-i.i in
    let v = c.in_ok-reading.reading in
    let rs = c.loop-i.readings in
    let within : i < length rs = omega (arith, c.loop-i.invariant.0) in
    let front : take (i + 1) (set rs i v) ≡ take i rs ++ v ∷ [] = take_more_set rs i v within in
    (grind (arith, common_steps), rw front (goes_on (take i rs) c.args.name 16 i (words c.loop-i.rest.now) v (words c.in_ok-reading.after.now) (readings_at 16 c.args.name (words c.args.line.now)) c.loop-i-test.true (sym c.in_ok-reading.ensures) c.loop-i.invariant.1))

pub returns : goal.returns
returns c =
    let rs = c.loop-i.readings in
    let all : take c.loop-i.i rs ≡ rs = take_all c.loop-i.i rs (omega (arith, c.loop-i.invariant.0)) in
    sym (rw all at (is_done (take c.loop-i.i rs) c.args.name 16 c.loop-i.i (words c.loop-i.rest.now) (readings_at 16 c.args.name (words c.args.line.now)) (omega arith) c.loop-i.invariant.1))
