use Rattle.std.proofs.Common.{rules, refl, sym, ◌∙◌, inr, length, vec_items}
use Rattle.std.proofs.lemmas.Iterator.Consumers.{YieldsList-turn, YieldsList-end}
use Rattle.std.proofs.lemmas.List.{length_push}
use Rattle.std.proofs.lemmas.Result.{err_from_is_err_and}
use Rattle.script.proofs.NameSteps.{differs}
use Rattle.script.proofs.TypeSteps.{pieces, yields_pieces, pieces_none, pieces_more, pieces_fail, pieces_end, not_dash}
use Rattle.script.proofs.types.read_types.Goals as goal

pub loop-piece-init : goal.loop-piece-init
loop-piece-init c = record {
  can_next = search rules;
  is_finite = search rules;
  so_far = pieces_none c.args.text.now _ 0 c.new-types.ensures.items refl;
}

pub loop-piece-preserved : goal.loop-piece-preserved
loop-piece-preserved c =
    let t = YieldsList-turn (yields_pieces _ _ c.args.text.now c.into_iter-piece-iterator.ensures.into_iter_gives c.split-piece-items.ensures.text c.split-piece-items.ensures.has_more c.split-piece-items.ensures.pattern) c.loop-piece.yielded _ c.loop-piece.yielded_by _ _ c.in-Some.piece c.in-Some.is c.next.ensures.steps in
    record {
      can_next = search rules;
      is_finite = search rules;
      so_far = pieces_more (pieces c.args.text.now) _ _ _ _ _ _ t (search rules) c.in_ok-push.ensures.items (length_push c.loop-piece.yielded c.in-Some.piece) ∙ c.loop-piece.invariant.so_far;
    }

pub returns-in_err-t : goal.returns-in_err-t
returns-in_err-t c =
    let t = YieldsList-turn (yields_pieces _ _ c.args.text.now c.into_iter-piece-iterator.ensures.into_iter_gives c.split-piece-items.ensures.text c.split-piece-items.ensures.has_more c.split-piece-items.ensures.pattern) c.loop-piece.yielded _ c.loop-piece.yielded_by _ _ c.in-Some.piece c.in-Some.is c.next.ensures.steps in
    let f = pieces_fail (pieces c.args.text.now) (length c.loop-piece.yielded) c.in-Some.piece.now (vec_items c.loop-piece.types) t (search rules) in
    let p = err_from_is_err_and c.from_residual.result c.from_residual.ensures.1 in
    rw (p.1, p.2)
    (inr (search rules, not_dash c.args.text.now (differs _ _ c.if-eq.ensures) ∙ sym c.loop-piece.invariant.so_far ∙ f))

pub returns : goal.returns
returns c =
    let t = YieldsList-end (yields_pieces _ _ c.args.text.now c.into_iter-piece-iterator.ensures.into_iter_gives c.split-piece-items.ensures.text c.split-piece-items.ensures.has_more c.split-piece-items.ensures.pattern) c.loop-piece.yielded _ c.loop-piece.yielded_by _ _ c.in-None.is c.next.ensures.steps in
    not_dash c.args.text.now (differs _ _ c.if-eq.ensures)
    ∙ sym c.loop-piece.invariant.so_far
    ∙ pieces_end (pieces c.args.text.now) (length c.loop-piece.yielded) (vec_items c.loop-piece.types) t.1
