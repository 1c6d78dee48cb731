use Rattle.std.proofs.Common.{refl, ap, ◌∙◌}
use Rattle.names.specs.TypeView.{words}
use Rattle.journal.specs.Notes.{held_by}
use Rattle.journal.specs.Rising.{notes_names}
use Rattle.journal.specs.State.{notes_of, slots_of}
use Rattle.journal.specs.View.{shown}
use Rattle.journal.proofs.After.{held_after_put}
use Rattle.journal.proofs.journal.answering.JournalBook.put.Goals as goal

pub returns : goal.returns
returns c = record {
  answer = c.note_put.ensures.answer;
  held = ap held_by c.note_put.ensures.notes ∙ held_after_put (slots_of c.args.self.now) (shown (notes_of c.args.self.now)) c.args.name.now (words c.args.types.now) (notes_names (notes_of c.args.self.now));
  capacity = c.note_put.ensures.slots;
  cost = λ n. refl;
}
