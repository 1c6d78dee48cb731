-- What a journal holds rises in canonical order: the proof that a book has to give.
use Rattle.std.specs.Prelude.{◌≡◌, Bool, true, ◌&&◌, List, [], ◌∷◌, None, refl}
use Rattle.std.proofs.Common.{◌∙◌}
use Rattle.std.proofs.lemmas.Bool.{cond_both, cond-true, and_parts, and_from}
use Rattle.names.specs.Orders.{names_decide}
use Rattle.names.proofs.Undo.{are_labels_lem}
use Rattle.names.specs.Canonical.{same_name}
use Rattle.names.specs.Wire.{Labels, is_labels}
use Rattle.books.proofs.Keeps.{rises_with, rises_without, entry_without}
use Rattle.books.specs.Held.{Held, rises, entry_of, without_name}
use Rattle.journal.specs.Notes.{Noted, Notes, is_put, name_noted, entry_noted, held_after, held_from, held_by}
use Rattle.journal.specs.State.{notes_of}
use Rattle.journal.specs.View.{note_contents, shown}
use Rattle.journal.specs.declared.journal.Journal.{Journal}
use Rattle.journal.specs.declared.note.Note.{Note}
use Rattle.journal.specs.declared.note.Note.TheVariants.{Put, Take}

-- what each note names is a name
abbrev pub are_names : Notes → Bool
are_names [] = true
are_names (x ∷ xs) = is_labels (name_noted x) && are_names xs

note_name : (n : Note) → is_labels (name_noted (note_contents n)) ≡ true
note_name (Put e) = are_labels_lem _ e.name
note_name (Take e) = are_labels_lem _ e.name

pub notes_names : (ns : List Note) → are_names (shown ns) ≡ true
notes_names [] = refl
notes_names (n ∷ ns) = and_from _ _ (note_name n) (notes_names ns)

-- a name that was taken out is not held
pub none_without : (n : Labels) (hs : Held) → rises hs ≡ true → entry_of n (without_name n hs) ≡ None
none_without n hs h = entry_without n n hs h ∙ cond-true (same_name n n) None (entry_of n hs) (((names_decide n n).1 refl))

pub rises_after : (x : Noted) (hs : Held) → is_labels (name_noted x) ≡ true → rises hs ≡ true → rises (held_after x hs) ≡ true
rises_after x hs i h =
    cond_both (is_put x) _ _ (λ es. rises es ≡ true)
    (λ _. rises_with (entry_noted x) (without_name (name_noted x) hs) (rises_without (name_noted x) hs h) i (none_without (name_noted x) hs h))
    (λ _. rises_without (name_noted x) hs h)

pub rises_from_lem : (hs : Held) (xs : Notes) → are_names xs ≡ true → rises hs ≡ true → rises (held_from hs xs) ≡ true
rises_from_lem hs [] i h = h
rises_from_lem hs (x ∷ xs) i h =
    let p = and_parts (is_labels (name_noted x)) (are_names xs) i in
    rises_from_lem (held_after x hs) xs p.1 (rises_after x hs p.0 h)

pub notes_rise : (xs : Notes) → are_names xs ≡ true → rises (held_by xs) ≡ true
notes_rise xs i = rises_from_lem [] xs i refl

pub journal_rises : (j : Journal) → rises (held_by (shown (notes_of j))) ≡ true
journal_rises j = notes_rise (shown (notes_of j)) (notes_names (notes_of j))
