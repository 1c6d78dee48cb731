use Rattle.std.proofs.Common.{[], ◌∷◌, ◌++◌, sym, ap, ◌∙◌, ap₂}
use Rattle.std.proofs.lemmas.List.{map_push}
use Rattle.names.specs.TypeView.{words}
use Rattle.names.specs.View.{labels}
use Rattle.names.specs.Wire.{is_name}
use Rattle.books.specs.Stored.{contents, entry_in, stored}
use Rattle.journal.specs.Notes.{puts}
use Rattle.journal.specs.Rising.{notes_names}
use Rattle.journal.specs.State.{notes_of, slots_of}
use Rattle.journal.specs.View.{note_contents, shown}
use Rattle.journal.specs.declared.note.Note.TheVariants.{Put}
use Rattle.journal.proofs.Room.{notes_fit, read_some, sought, put_full, put_done}
use Rattle.journal.proofs.journal.Journal.note_put.Goals as goal

pub returns-then-not-make_room : goal.returns-then-not-make_room
returns-then-not-make_room c =
    let a = sought c.args.name.now (words c.args.types.now) (entry_in c.in_ok-named.named) (labels c.name.result) c.notes.result.now (notes_of c.args.self.now) c.put_of.result c.in_ok-named.ensures.entry c.name.ensures.labels c.notes.ensures c.put_of.ensures in
    let p = put_full (slots_of c.args.self.now) (shown (notes_of c.args.self.now)) c.args.name.now (words c.args.types.now) (notes_names (notes_of c.args.self.now)) a.name (a.held ∙ sym c.if-is_some.ensures) (notes_fit c.args.self.now) c.if-not-make_room.ensures.answer in
    record { answer = p.0; notes = c.if-not-make_room.ensures.notes ∙ p.1; slots = c.if-not-make_room.ensures.slots }

pub returns : goal.returns
returns c =
    let a = sought c.args.name.now (words c.args.types.now) (entry_in c.in_ok-named.named) (labels c.name.result) c.notes.result.now (notes_of c.args.self.now) c.put_of.result c.in_ok-named.ensures.entry c.name.ensures.labels c.notes.ensures c.put_of.ensures in
    let q = read_some (is_name c.args.name.now) (contents c.in_ok-named.named) (stored c.args.name.now (words c.args.types.now)) c.in_ok-named.ensures.contents in
    let p = put_done (slots_of c.args.self.now) (shown (notes_of c.args.self.now)) c.args.name.now (words c.args.types.now) (notes_names (notes_of c.args.self.now)) a.name (a.held ∙ sym c.if-is_some.ensures) c.if-not-make_room.ensures.answer in
    record {
      answer = p.0;
      notes =
          ap shown c.add.ensures.notes ∙ map_push note_contents (notes_of c.make_room.new.self) (Put c.in_ok-named.named)
          ∙ ap₂ (λ xs s. xs ++ (puts s ∷ [])) c.if-not-make_room.ensures.notes q.1 ∙ p.1;
      slots = c.add.ensures.slots ∙ c.if-not-make_room.ensures.slots;
    }
