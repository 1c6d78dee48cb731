-- A journal: notes of names put and names taken, the oldest first.
use Rattle.std.specs.Prelude.{ℕ, Bool, true, false, cond, not, ◌&&◌, ◌||◌, List, [], ◌∷◌, ◌++◌, length, take, drop, is_ok, Some, None, Option, nat_lt}
use Rattle.names.specs.Canonical.{same_name}
use Rattle.names.specs.Types.{Words, no_types}
use Rattle.names.specs.Wire.{Octets, Labels, labels_of}
use Rattle.books.specs.Answers.{of_name, put_name, take_name}
use Rattle.books.specs.Held.{Entry, Held, with_entry, without_name, one_each}
use Rattle.books.specs.Stored.{stored}

-- all that the slot of a name has: its octets, how many of these are the name, and the types
abbrev pub Slot : Type 0
Slot = Octets × (ℕ × Words)

abbrev pub entry_shown : Slot → Entry
entry_shown s = (labels_of (take s.1.0 s.0), s.1.1)

-- a note: a name was put, with its types, or a name was taken
pub data Noted : Type 0 where
  puts : Slot → Noted
  takes : Slot → Noted

abbrev pub Notes : Type 0
Notes = List Noted

abbrev pub is_put : Noted → Bool
is_put (puts s) = true
is_put (takes s) = false

abbrev pub entry_noted : Noted → Entry
entry_noted (puts s) = entry_shown s
entry_noted (takes s) = entry_shown s

abbrev pub name_noted : Noted → Labels
name_noted x = (entry_noted x).0

-- what is held after a note: a put replaces what was held of its name
abbrev pub held_after : Noted → Held → Held
held_after x hs = cond (is_put x) (with_entry (entry_noted x) (without_name (name_noted x) hs)) (without_name (name_noted x) hs)

abbrev pub held_from : Held → Notes → Held
held_from hs [] = hs
held_from hs (x ∷ xs) = held_from (held_after x hs) xs

-- what a journal holds: all notes, from the oldest on
abbrev pub held_by : Notes → Held
held_by xs = held_from [] xs

-- one of the notes names n
abbrev pub mentions : Labels → Notes → Bool
mentions n [] = false
mentions n (x ∷ xs) = same_name n (name_noted x) || mentions n xs

-- a live note is a put that none of the later notes overtakes by naming the same name
abbrev pub is_live : Noted → Notes → Bool
is_live x later = is_put x && not (mentions (name_noted x) later)

-- the live notes alone, in their sequence
abbrev pub compacted : Notes → Notes
compacted [] = []
compacted (x ∷ xs) = cond (is_live x xs) (x ∷ compacted xs) (compacted xs)

-- the entry of the first note, if that is live
abbrev pub live_entry : Notes → Option Entry
live_entry [] = None
live_entry (x ∷ xs) = cond (is_live x xs) (Some (entry_noted x)) None

-- the entry that an index stands for: that of the note there, if it is live
abbrev pub entry_at : Notes → ℕ → Option Entry
entry_at xs i = live_entry (drop i xs)

-- the notes without those that name n
abbrev pub without : Labels → Notes → Notes
without n [] = []
without n (x ∷ xs) = cond (same_name n (name_noted x)) (without n xs) (x ∷ without n xs)

-- the notes before one more is written: compacted only where no slot is free
abbrev pub readied : ℕ → Notes → Notes
readied capacity xs = cond (nat_lt (length xs) capacity) xs (compacted xs)

-- the notes once a name is put: its note at the end; as they were where that is refused
abbrev pub notes_after_put : ℕ → Notes → Octets → Words → Notes
notes_after_put capacity xs s ws =
    cond (is_ok (of_name s (put_name capacity one_each (held_by xs)))) (readied capacity xs ++ (puts (stored s ws) ∷ [])) xs

-- the notes once a name is taken: its note at the end or, where all slots have live notes, without the name's put;
-- as they were where that is refused
abbrev pub take_noted : ℕ → Notes → Octets → Notes
take_noted capacity xs s = cond (nat_lt (length xs) capacity) (xs ++ (takes (stored s no_types) ∷ [])) (without (labels_of s) xs)

abbrev pub notes_after_take : ℕ → Notes → Octets → Notes
notes_after_take capacity xs s = cond (is_ok (of_name s (take_name (held_by xs)))) (take_noted capacity (readied capacity xs) s) xs
