use Rattle.std.proofs.Common.{◌≡◌, get_or, vec_items, ap, ◌∙◌, arith, rules, ltb-false}
use Rattle.script.specs.NameText.{before, read_labels}
use Rattle.script.proofs.NameSteps.{dot_step, escape_step}
use Rattle.script.proofs.name.read_labels.Goals as goal

pub loop-rest-preserved-in_ok-push_wire-in-46 : goal.loop-rest-preserved-in_ok-push_wire-in-46
loop-rest-preserved-in_ok-push_wire-in-46 c =
    let s = c.loop-rest.rest.now in
    let d : get_or s 0 0 ≡ 46 = grind arith in
    let l = ap (λ l. before (vec_items c.loop-rest.name) (read_labels l s)) c.deref.ensures.value in
    dot_step s (vec_items c.loop-rest.name) _ c.deref.result.now _ (omega (arith, ltb-false)) d c.in_ok-push_wire-in-46.ensures c.clear.ensures.items
    ∙ l ∙ c.loop-rest.invariant

pub loop-rest-preserved-in_ok-push-in-92 : goal.loop-rest-preserved-in_ok-push-in-92
loop-rest-preserved-in_ok-push-in-92 c =
    escape_step c.loop-rest.rest.now _ (vec_items c.loop-rest.label) _ _ (omega (arith, ltb-false)) (omega arith) (search rules) c.in_ok-push-in-92.ensures.items
    ∙ c.loop-rest.invariant
