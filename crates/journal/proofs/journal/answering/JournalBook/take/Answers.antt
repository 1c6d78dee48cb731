use Rattle.std.proofs.Common.{refl, ap, ◌∙◌}
use Rattle.journal.specs.Notes.{held_by}
use Rattle.journal.specs.Rising.{notes_names}
use Rattle.journal.specs.State.{notes_of, slots_of}
use Rattle.journal.specs.View.{shown}
use Rattle.journal.proofs.After.{held_after_take}
use Rattle.journal.proofs.journal.answering.JournalBook.take.Goals as goal

pub returns : goal.returns
returns c = record {
  answer = c.note_take.ensures.answer;
  held = ap held_by c.note_take.ensures.notes ∙ held_after_take (slots_of c.args.self.now) (shown (notes_of c.args.self.now)) c.args.name.now (notes_names (notes_of c.args.self.now));
  capacity = c.note_take.ensures.slots;
  cost = λ n. refl;
}
