use Rattle.std.proofs.Common.{◌≡◌, true, false, ◌&&◌, [], ◌∷◌, ◌++◌, length, is_some, Some, refl, sym, ap, ◌∙◌, ap₂, rules}
use Rattle.names.specs.View.{labels}
use Rattle.books.specs.Held.{less}
use Rattle.journal.specs.Notes.{entry_at}
use Rattle.journal.specs.View.{shown}
use Rattle.journal.proofs.Nearest.{nearer, is_taken, not_less, not_live, back}
use Rattle.journal.proofs.Places.{live_now}
use Rattle.journal.proofs.scan.least_after.Goals.{in-Some-best, in-None-best}
use Rattle.journal.proofs.scan.least_after.Goals.{else-is_nearer-via-then-is_nearer+else-is_some, else-is_nearer-via-else-is_nearer}
use Rattle.journal.proofs.scan.least_after.Goals as goal

pub loop-i-preserved-then-is_some : goal.loop-i-preserved-then-is_some
loop-i-preserved-then-is_some c =
    let n = labels c.args.after.now in
    let ns = c.args.notes.now in
    let m = c.name-name.result in
    let left = c.next.new.self.iter.iter.rest.now in
    let is : c.loop-i.i-iterator.iter.iter.rest.now ≡ left ++ (c.in-Some.note.now ∷ []) = search rules in
    let i : c.in-Some.i ≡ length left = search rules in
    let b = back n ns c.loop-i.i-iterator.iter.iter.rest.now left c.in-Some.note.now m c.loop-i.best c.loop-i.invariant.1 is c.name-name.ensures c.loop-i.invariant.2 in
    let near : c.match-best.is_nearer ≡ nearer (labels m) c.loop-i.best = elim c.match-best.branch [ in-Some-best w ↦ search rules | in-None-best w ↦ search rules ] in
    let after : less n (labels m) ≡ true = search rules in
    let live : is_some (entry_at (shown ns) (length left)) ≡ true = ap (λ k. is_some (entry_at (shown ns) k)) (sym i) ∙ live_now _ c.live_at.result ns ns c.in-Some.i c.live_at.ensures refl ∙ sym c.if-is_some.ensures in
    let t : is_taken n (labels m) c.loop-i.best (entry_at (shown ns) (length left)) ≡ true = ap₂ ◌&&◌ (sym near ∙ c.if-is_nearer.true) (ap₂ ◌&&◌ after live) in
    (search rules, b.front, ap (λ k. Some (entry_at (shown ns) k, labels m)) i ∙ b.taken t)

pub loop-i-preserved-else-is_nearer : goal.loop-i-preserved-else-is_nearer
loop-i-preserved-else-is_nearer c =
    let n = labels c.args.after.now in
    let ns = c.args.notes.now in
    let m = c.name-name.result in
    let left = c.next.new.self.iter.iter.rest.now in
    let is : c.loop-i.i-iterator.iter.iter.rest.now ≡ left ++ (c.in-Some.note.now ∷ []) = search rules in
    let i : c.in-Some.i ≡ length left = search rules in
    let b = back n ns c.loop-i.i-iterator.iter.iter.rest.now left c.in-Some.note.now m c.loop-i.best c.loop-i.invariant.1 is c.name-name.ensures c.loop-i.invariant.2 in
    let near : c.match-best.is_nearer ≡ nearer (labels m) c.loop-i.best = elim c.match-best.branch [ in-Some-best w ↦ search rules | in-None-best w ↦ search rules ] in
    let t : is_taken n (labels m) c.loop-i.best (entry_at (shown ns) (length left)) ≡ false =
    elim c.else-is_nearer.branch [
      | else-is_nearer-via-then-is_nearer+else-is_some w ↦
          let live : is_some (entry_at (shown ns) (length left)) ≡ false = ap (λ k. is_some (entry_at (shown ns) k)) (sym i) ∙ live_now _ w.live_at.result ns ns c.in-Some.i w.live_at.ensures refl ∙ sym w.if-is_some.ensures in
          not_live n (labels m) c.loop-i.best (entry_at (shown ns) (length left)) live
      | else-is_nearer-via-else-is_nearer w ↦ ap (λ k. k && (less n (labels m) && is_some (entry_at (shown ns) (length left)))) (sym near ∙ w.if-is_nearer.false)
    ] in
    (search rules, b.front, b.kept t)

pub loop-i-preserved : goal.loop-i-preserved
loop-i-preserved c =
    let n = labels c.args.after.now in
    let ns = c.args.notes.now in
    let m = c.name-name.result in
    let left = c.next.new.self.iter.iter.rest.now in
    let is : c.loop-i.i-iterator.iter.iter.rest.now ≡ left ++ (c.in-Some.note.now ∷ []) = search rules in
    let b = back n ns c.loop-i.i-iterator.iter.iter.rest.now left c.in-Some.note.now m c.loop-i.best c.loop-i.invariant.1 is c.name-name.ensures c.loop-i.invariant.2 in
    let after : less n (labels m) ≡ false = search rules in
    (search rules, b.front, b.kept (not_less n (labels m) c.loop-i.best (entry_at (shown ns) (length left)) after))
