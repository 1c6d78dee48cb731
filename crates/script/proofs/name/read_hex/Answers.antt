use Rattle.std.proofs.Common.{◌/◌, length, vec_items, sym, refl, ◌∙◌, inr, arith, rules, ltb-false}
use Rattle.std.proofs.lemmas.Result.{err_from_is_err_and}
use Rattle.script.proofs.NameSteps.{odd_hex, pairs_none, pairs_more, pairs_fail}
use Rattle.script.proofs.name.read_hex.Goals as goal

pub returns-in_default : goal.returns-in_default
returns-in_default c =
    let s = c.args.text.now in
    inr (refl, odd_hex (length s / 2) s (omega (arith, ltb-false)))

pub loop-high-init : goal.loop-high-init
loop-high-init c =
    let s = c.args.text.now in
    pairs_none (length s / 2) s _ c.as_chunks.result.0.now c.new-octets.ensures.items c.as_chunks.ensures.front (omega arith)

pub loop-high-preserved : goal.loop-high-preserved
loop-high-preserved c =
    pairs_more c.as_chunks.result.0.now c.loop-high.high-index _ (vec_items c.loop-high.octets) _ (omega arith) (search rules) c.in_ok-push.ensures.items
    ∙ c.loop-high.invariant

pub returns-in_err-octet : goal.returns-in_err-octet
returns-in_err-octet c =
    let f = pairs_fail c.as_chunks.result.0.now c.loop-high.high-index (vec_items c.loop-high.octets) (omega arith) (search rules) in
    let p = err_from_is_err_and c.from_residual.result c.from_residual.ensures.1 in
    rw (p.1, p.2) (inr (search rules, sym c.loop-high.invariant ∙ f))
