use Rattle.std.proofs.Common.{◌≡◌, ◌++◌, length, sym, ap, ◌∙◌, arith}
use Rattle.std.proofs.lemmas.List.{length-append, take-append-drop}
use Rattle.digests.specs.Sha.{run, ending}
use Rattle.digests.proofs.Joins.{message_short, message_long}
use Rattle.digests.proofs.sha1.blocks.Joined.hash.Goals as goal

pub returns-in_default : goal.returns-in_default
returns-in_default c =
    message_short c.args.self.now c.self.inside.front.now c.self.inside.behind.now _ _ c.bits-bits.result c.absorb-s.result c.finish.result
    (sym c.self.view_is) c.as_chunks.ensures.front c.as_chunks.ensures.back c.absorb-s.ensures c.bits-bits.ensures
    (c.finish.ensures ∙ ap (λ w. run c.absorb-s.result (w ++ ending (length w) c.bits-bits.result)) c.new.ensures)

pub returns : goal.returns
returns c =
    let b = c.self.inside.behind.now in
    let cut = c.in-Some.ensures.cases in
    let split : b ≡ c.in-Some.front.now ++ c.in-Some.behind.now = sym (rw (cut.1, cut.2) (take-append-drop _ b)) in
    let full : length (c.as_chunks.result.1.now ++ c.in-Some.front.now) ≡ 64 = simp length-append (omega (arith, cut.3)) in
    message_long c.args.self.now c.self.inside.front.now b _ c.in-Some.front.now c.in-Some.behind.now _ _ _ c.bits-bits.result
    c.absorb-s.result c.absorb-t.result c.absorb.result c.finish-2.result
    (sym c.self.view_is) c.as_chunks.ensures.front c.as_chunks.ensures.back c.absorb-s.ensures
    split full (c.absorb-t.ensures ∙ ap (run c.absorb-s.result) c.new-2.ensures)
    c.as_chunks-2.ensures.front c.as_chunks-2.ensures.back c.absorb.ensures c.bits-bits.ensures
    (c.finish-2.ensures ∙ ap (λ w. run c.absorb.result (w ++ ending (length w) c.bits-bits.result)) c.new-3.ensures)
