use Rattle.std.proofs.Common.{◌<◌, length, sym, ap, ◌∙◌, arith}
use Rattle.std.proofs.lemmas.List.Edits.{length-remove}
use Rattle.journal.specs.State.{notes_of}
use Rattle.journal.proofs.Moves.{stays, goes, settled}
use Rattle.journal.proofs.Places.{live_now}
use Rattle.journal.proofs.journal.Journal.compact.Goals as goal

pub loop-i-preserved-then-is_some : goal.loop-i-preserved-then-is_some
loop-i-preserved-then-is_some c =
    let ns = notes_of c.loop-i.self in
    let k = ap length c.notes.ensures in
    let h : c.loop-i.i < length ns = omega arith in
    let l = live_now _ c.live_at.result c.notes-in-loop-i.result.now ns c.loop-i.i c.live_at.ensures c.notes-in-loop-i.ensures ∙ sym c.if-is_some.ensures in
    (stays ns c.loop-i.i h l ∙ c.loop-i.invariant.0, omega arith, c.loop-i.invariant.2)

pub loop-i-preserved : goal.loop-i-preserved
loop-i-preserved c =
    let ns = notes_of c.loop-i.self in
    let k = ap length c.notes.ensures in
    let h : c.loop-i.i < length ns = omega arith in
    let l = live_now _ c.live_at.result c.notes-in-loop-i.result.now ns c.loop-i.i c.live_at.ensures c.notes-in-loop-i.ensures ∙ sym c.if-is_some.ensures in
    let m = ap length c.remove.ensures.notes in
    let r = length-remove ns c.loop-i.i h in
    (ap (λ ys. settled ys c.loop-i.i) c.remove.ensures.notes ∙ goes ns c.loop-i.i h l ∙ c.loop-i.invariant.0, omega arith, c.remove.ensures.slots ∙ c.loop-i.invariant.2)
