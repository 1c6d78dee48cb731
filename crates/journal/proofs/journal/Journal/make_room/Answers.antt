use Rattle.std.proofs.Common.{◌≡◌, ltb, length, sym, ap, ◌∙◌, ap₂, arith}
use Rattle.std.proofs.lemmas.Grind.{common_steps}
use Rattle.std.proofs.lemmas.List.{length-map}
use Rattle.journal.specs.Notes.{readied}
use Rattle.journal.specs.State.{notes_of, slots_of}
use Rattle.journal.specs.View.{note_contents, shown}
use Rattle.journal.proofs.Room.{room_readied}
use Rattle.journal.proofs.journal.Journal.make_room.Goals.{then-notes-capacity, else-notes-capacity}
use Rattle.journal.proofs.journal.Journal.make_room.Goals as goal

pub returns-clause-answer : goal.returns-clause-answer
returns-clause-answer c =
    let xs = shown (notes_of c.args.self.now) in
    let k = slots_of c.args.self.now in
    let now = c.if-notes-capacity.self in
    let e : shown (notes_of now) ≡ readied k xs = elim c.if-notes-capacity.branch [ then-notes-capacity w ↦ grind (arith, common_steps) | else-notes-capacity w ↦ grind (arith, common_steps) ] in
    let s : slots_of now ≡ k = elim c.if-notes-capacity.branch [ then-notes-capacity w ↦ grind (arith, common_steps) | else-notes-capacity w ↦ grind (arith, common_steps) ] in
    ap₂ ltb (ap length c.notes-2.ensures ∙ sym (length-map (notes_of now) note_contents) ∙ ap length e) (c.capacity-2.ensures ∙ s) ∙ room_readied k xs
