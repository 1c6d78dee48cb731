use Rattle.std.proofs.Common.{Some, ap, ◌∙◌}
use Rattle.std.specs.List.{remove}
use Rattle.names.specs.TypeView.{words}
use Rattle.names.specs.View.{labels}
use Rattle.books.specs.Stored.{entry_in}
use Rattle.journal.specs.State.{notes_of, slots_of}
use Rattle.journal.specs.View.{shown}
use Rattle.journal.proofs.Moves.{shown_removed}
use Rattle.journal.proofs.Room.{notes_fit, sought, take_answer, take_full}
use Rattle.journal.proofs.journal.Journal.note_take.Goals as goal

pub returns-else-make_room : goal.returns-else-make_room
returns-else-make_room c =
    let a = sought c.args.name.now (words c.empty.result) (entry_in c.in_ok-named.named) (labels c.name.result) c.notes.result.now (notes_of c.args.self.now) (Some c.in-Some.i) c.in_ok-named.ensures.entry c.name.ensures.labels c.notes.ensures c.in-Some.ensures in
    record {
      answer = take_answer (shown (notes_of c.args.self.now)) c.args.name.now a.name a.held;
      notes =
          ap shown c.remove.ensures.notes ∙ shown_removed (notes_of c.make_room.new.self) c.in-Some.i
          ∙ ap (λ xs. remove xs c.in-Some.i) c.if-make_room.ensures.notes
          ∙ take_full (slots_of c.args.self.now) (shown (notes_of c.args.self.now)) c.args.name.now c.in-Some.i a.name (notes_fit c.args.self.now) c.if-make_room.ensures.answer a.place;
      slots = c.remove.ensures.slots ∙ c.if-make_room.ensures.slots;
    }
