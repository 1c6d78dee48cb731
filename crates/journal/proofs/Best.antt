-- The first entry after a name, among the live notes.
use Rattle.std.proofs.Common.{◌≡◌, Bool, true, cond, ◌&&◌, [], ◌∷◌, Some, None, Option, ap, arith}
use Rattle.std.proofs.lemmas.Bool.{cases_Bool, and_parts}
use Rattle.std.proofs.lemmas.Bool.Decides.{nat_tests}
use Rattle.names.specs.Canonical.{same_name}
use Rattle.names.specs.Wire.{Labels, is_labels}
use Rattle.books.proofs.Keeps.{less_other}
use Rattle.books.proofs.Rising.{less_transitive, rises_tail}
use Rattle.books.specs.Held.{Entry, Held, less, rises, entry_of, entry_after, with_entry}
use Rattle.journal.proofs.Compact.{entered, live_new, entered_rises, held_entered}
use Rattle.journal.specs.Notes.{Noted, Notes, entry_noted, name_noted, held_by, is_live}
use Rattle.journal.specs.Rising.{are_names}

-- a name comes before an entry, if there is one
abbrev pub before : Labels → Option Entry → Bool
before n None = true
before n (Some e) = less n e.0

-- the better of an entry and the best so far
abbrev pub better : Labels → Entry → Option Entry → Option Entry
better n e o = cond (less n e.0 && before e.0 o) (Some e) o

after_with : (n : Labels) (e : Entry) (hs : Held) → rises hs ≡ true → entry_of e.0 hs ≡ None → entry_after n (with_entry e hs) ≡ better n e (entry_after n hs)
after_with n e [] h k = let c = cases_Bool (less n e.0) in grind (arith, nat_tests)
after_with n e (f ∷ fs) h k =
    let d = cases_Bool (less e.0 f.0) in
    let s = cases_Bool (same_name e.0 f.0) in
    let o = less_other e.0 f.0 in
    let t = less_transitive n e.0 f.0 in
    let c = cases_Bool (less n e.0) in
    let g = cases_Bool (less n f.0) in
    let r = after_with n e fs (rises_tail f.0 fs h) in
    grind (arith, nat_tests)

-- one note more at the front
pub after_more : (n : Labels) (x : Noted) (xs : Notes) → are_names (x ∷ xs) ≡ true → entry_after n (held_by (x ∷ xs)) ≡ cond (is_live x xs) (better n (entry_noted x) (entry_after n (held_by xs))) (entry_after n (held_by xs))
after_more n x xs i =
    let a = and_parts (is_labels (name_noted x)) (are_names xs) i in
    let p = ap (entry_after n) (held_entered (x ∷ xs) i) in
    let q = ap (entry_after n) (held_entered xs a.1) in
    let w : is_live x xs ≡ true → entry_after n (with_entry (entry_noted x) (entered xs)) ≡ better n (entry_noted x) (entry_after n (entered xs)) = λ h. after_with n (entry_noted x) (entered xs) (entered_rises xs a.1) (live_new x xs h) in
    let c = cases_Bool (is_live x xs) in
    grind (arith, nat_tests)
