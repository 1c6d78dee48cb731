-- The live notes hold what all notes hold.
use Rattle.std.proofs.Common.{◌≡◌, ◌≤◌, Bool, true, false, cond, not, ◌&&◌, [], ◌∷◌, length, is_some, Some, None, sym, refl, ap, ◌∙◌, arith}
use Rattle.std.proofs.lemmas.Bool.{cases_Bool, and_parts}
use Rattle.std.proofs.lemmas.Bool.Decides.{nat_tests}
use Rattle.names.specs.Canonical.{same_name}
use Rattle.names.specs.Wire.{Labels, is_labels}
use Rattle.books.proofs.Keeps.{rises_with, entry_with}
use Rattle.books.specs.Held.{Held, rises, entry_of, with_entry, spent}
use Rattle.journal.proofs.Lists.{length_with, spent_each}
use Rattle.journal.proofs.Newest.{newest, newest_none, mentions_same, entry_newest, same_by_newest}
use Rattle.journal.specs.Notes.{Noted, Notes, is_put, entry_noted, name_noted, held_by, mentions, is_live, compacted}
use Rattle.books.specs.Held.{one_each}
use Rattle.journal.specs.Rising.{are_names, notes_rise}

-- the live notes, put in their places one after the other, the newest first
abbrev pub entered : Notes → Held
entered [] = []
entered (x ∷ xs) = cond (is_live x xs) (with_entry (entry_noted x) (entered xs)) (entered xs)

-- a live note is the only one of its name from there on
pub live_alone : (x : Noted) (xs : Notes) → is_live x xs ≡ true → mentions (name_noted x) xs ≡ false
live_alone x xs h = let p = cases_Bool (is_put x) in let m = cases_Bool (mentions (name_noted x) xs) in grind (arith, nat_tests)

newest_live : (n : Labels) (x : Noted) (xs : Notes) → newest n (x ∷ xs) ≡ cond (is_live x xs) (cond (same_name n (name_noted x)) (Some (entry_noted x)) (newest n xs)) (newest n xs)
newest_live n x xs =
    let z = newest_none n xs in
    let a = mentions_same n (name_noted x) xs in
    let s = cases_Bool (same_name n (name_noted x)) in
    let t = cases_Bool (mentions n xs) in
    let u = cases_Bool (mentions (name_noted x) xs) in
    let p = cases_Bool (is_put x) in
    grind (arith, nat_tests)

entered_newest : (n : Labels) (xs : Notes) → entry_of n (entered xs) ≡ newest n xs
entered_newest n [] = refl
entered_newest n (x ∷ xs) =
    let l = newest_live n x xs in
    let r = entered_newest n xs in
    let k : is_live x xs ≡ true → entry_of (name_noted x) (entered xs) ≡ None = λ h. entered_newest (name_noted x) xs ∙ newest_none (name_noted x) xs (live_alone x xs h) in
    let e : is_live x xs ≡ true → entry_of n (with_entry (entry_noted x) (entered xs)) ≡ cond (same_name n (name_noted x)) (Some (entry_noted x)) (entry_of n (entered xs)) = λ h. entry_with n (entry_noted x) (entered xs) (k h) in
    let c = cases_Bool (is_live x xs) in
    grind (arith, nat_tests)

pub live_new : (x : Noted) (xs : Notes) → is_live x xs ≡ true → entry_of (name_noted x) (entered xs) ≡ None
live_new x xs h = entered_newest (name_noted x) xs ∙ newest_none (name_noted x) xs (live_alone x xs h)

pub entered_rises : (xs : Notes) → are_names xs ≡ true → rises (entered xs) ≡ true
entered_rises [] i = refl
entered_rises (x ∷ xs) i =
    let a = and_parts (is_labels (name_noted x)) (are_names xs) i in
    let r = entered_rises xs a.1 in
    let k = live_new x xs in
    let w : is_live x xs ≡ true → rises (with_entry (entry_noted x) (entered xs)) ≡ true = λ h. rises_with (entry_noted x) (entered xs) r a.0 (k h) in
    let c = cases_Bool (is_live x xs) in
    grind (arith, nat_tests)

pub held_entered : (xs : Notes) → are_names xs ≡ true → held_by xs ≡ entered xs
held_entered xs i = same_by_newest xs (entered xs) i (entered_rises xs i) (λ n. entered_newest n xs)

-- how many names are held
length_entered : (xs : Notes) → length (entered xs) ≡ length (compacted xs)
length_entered [] = refl
length_entered (x ∷ xs) =
    let r = length_entered xs in
    let w = length_with (entry_noted x) (entered xs) in
    let c = cases_Bool (is_live x xs) in
    grind (arith, nat_tests)

pub length_held : (xs : Notes) → are_names xs ≡ true → length (held_by xs) ≡ length (compacted xs)
length_held xs i = ap length (held_entered xs i) ∙ length_entered xs

pub spent_live : (xs : Notes) → are_names xs ≡ true → spent one_each (held_by xs) ≡ length (compacted xs)
spent_live xs i = spent_each (held_by xs) ∙ length_held xs i

pub compacted_short : (xs : Notes) → length (compacted xs) ≤ length xs
compacted_short [] = omega arith
compacted_short (x ∷ xs) =
    let r = compacted_short xs in
    let c = cases_Bool (is_live x xs) in
    grind (arith, nat_tests)

-- compaction alters nothing that is held
mentions_compacted : (n : Labels) (xs : Notes) → mentions n (compacted xs) ≡ is_some (newest n xs)
mentions_compacted n [] = refl
mentions_compacted n (x ∷ xs) =
    let l = newest_live n x xs in
    let r = mentions_compacted n xs in
    let s = cases_Bool (same_name n (name_noted x)) in
    let c = cases_Bool (is_live x xs) in
    grind (arith, nat_tests)

live_put : (x : Noted) (xs : Notes) → is_live x xs ≡ true → is_put x ≡ true
live_put x xs h = (and_parts (is_put x) _ h).0

newest_compacted : (n : Labels) (xs : Notes) → newest n (compacted xs) ≡ newest n xs
newest_compacted n [] = refl
newest_compacted n (x ∷ xs) =
    let l = newest_live n x xs in
    let r = newest_compacted n xs in
    let m = mentions_compacted n xs in
    let z = newest_none n (compacted xs) in
    let a = live_alone x xs in
    let y = newest_none n xs in
    let b = mentions_same n (name_noted x) xs in
    let p = live_put x xs in
    let s = cases_Bool (same_name n (name_noted x)) in
    let t = cases_Bool (mentions n (compacted xs)) in
    let c = cases_Bool (is_live x xs) in
    grind (arith, nat_tests)

pub compacted_names : (xs : Notes) → are_names xs ≡ true → are_names (compacted xs) ≡ true
compacted_names [] i = refl
compacted_names (x ∷ xs) i =
    let a = and_parts (is_labels (name_noted x)) (are_names xs) i in
    let r = compacted_names xs a.1 in
    let c = cases_Bool (is_live x xs) in
    grind (arith, nat_tests)

pub held_compacted : (xs : Notes) → are_names xs ≡ true → held_by (compacted xs) ≡ held_by xs
held_compacted xs i = same_by_newest (compacted xs) (held_by xs) (compacted_names xs i) (notes_rise xs i) (λ n. entry_newest n xs i ∙ sym (newest_compacted n xs))

-- each name has one live note
abbrev pub apart : Notes → Bool
apart [] = true
apart (x ∷ xs) = not (mentions (name_noted x) xs) && apart xs

pub compacted_apart : (xs : Notes) → apart (compacted xs) ≡ true
compacted_apart [] = refl
compacted_apart (x ∷ xs) =
    let r = compacted_apart xs in
    let m = mentions_compacted (name_noted x) xs in
    let a = live_alone x xs in
    let z = newest_none (name_noted x) xs in
    let c = cases_Bool (is_live x xs) in
    grind (arith, nat_tests)
