-- What the notes in slots say.
use Rattle.std.specs.Prelude.{List, map}
use Rattle.books.specs.Stored.{contents}
use Rattle.journal.specs.Notes.{Noted, puts, takes, Notes}
use Rattle.journal.specs.declared.note.Note.{Note}
use Rattle.journal.specs.declared.note.Note.TheVariants.{Put, Take}

-- all that a slot shows: whether a put or a take, and all of its name's slot
abbrev pub note_contents : Note → Noted
note_contents (Put e) = puts (contents e)
note_contents (Take e) = takes (contents e)

abbrev pub shown : List Note → Notes
shown ns = map note_contents ns
