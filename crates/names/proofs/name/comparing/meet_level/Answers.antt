use Rattle.std.proofs.Common.{◌≡◌, length, inl, inr, ⊎_elim, sym, ap, arith, rules}
use Rattle.names.specs.View.{labels}
use Rattle.names.proofs.Reader.{labels_short}
use Rattle.names.proofs.Undo.{name_short}
use Rattle.names.proofs.Steps.{met_start, met_same, met_other, met_end}
use Rattle.names.proofs.name.comparing.meet_level.Goals as goal

pub loop-x-init : goal.loop-x-init
loop-x-init c =
    let a : labels c.into_iter-x-iterator.result.a.left ≡ labels c.args.a.now = search rules in
    let b : labels c.into_iter-x-iterator.result.b.left ≡ labels c.args.b.now = search rules in
    rw (a, b) (met_start (labels c.args.a.now) (labels c.args.b.now) c.requires)

pub overflow_add-shared : goal.overflow_add-shared
overflow_add-shared c =
    let f = c.loop-x.invariant.fewer in
    let s = labels_short c.args.a.now.octets.now in
    let n = name_short c.args.a.now.octets.now c.args.a.now.whole in
    let l = ap length c.in-Some.ensures.steps.0 in
    omega arith

pub loop-x-preserved-in-Equal : goal.loop-x-preserved-in-Equal
loop-x-preserved-in-Equal c =
    met_same _ _ _ _ _ _ _ _ _ _ c.loop-x.invariant c.in-Some.ensures.steps.0 c.in-Some.ensures.steps.1 (sym c.in-Equal.ensures)

pub loop-x-preserved : goal.loop-x-preserved
loop-x-preserved c =
    met_other _ _ _ _ _ _ _ _ _ _ _ c.loop-x.invariant c.in-Some.ensures.steps.0 c.in-Some.ensures.steps.1 c.compare_labels.ensures c.in_default.not-Equal

pub returns : goal.returns
returns c =
    let e = met_end _ _ _ _ _ _ c.loop-x.invariant (⊎_elim (λ k. inl k.1.0) (λ k. inr k.1.0) c.in-None.ensures.steps) in
    record { shared = e.0; order = e.1 }
