-- What a journal has.
use Rattle.std.specs.Prelude.{ℕ, List, length}
use Rattle.shelf.specs.Entries.{live}
use Rattle.journal.specs.Notes.{Notes}
use Rattle.journal.specs.View.{shown}
use Rattle.journal.specs.declared.journal.Journal.{Journal}
use Rattle.journal.specs.declared.note.Note.{Note}

-- all slots
abbrev pub all_slots : Journal → List Note
all_slots j = j.shelf.slots.now

-- how many slots there are
abbrev pub slots_of : Journal → ℕ
slots_of j = length (all_slots j)

-- the notes, the oldest first, in the first slots; what lies in the slots past them is open
abbrev pub notes_of : Journal → List Note
notes_of j = live (all_slots j) j.shelf.count

-- what they show
abbrev pub notes_shown : Journal → Notes
notes_shown j = shown (notes_of j)
