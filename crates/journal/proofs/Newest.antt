-- The newest note of a name decides.
use Rattle.std.proofs.Common.{◌≡◌, true, false, cond, ◌&&◌, [], ◌∷◌, Some, None, Option, sym, refl, ap, ◌∙◌, arith}
use Rattle.std.proofs.lemmas.Bool.{cases_Bool, and_parts}
use Rattle.std.proofs.lemmas.Bool.Decides.{nat_tests}
use Rattle.names.specs.Orders.{names_decide}
use Rattle.names.specs.Canonical.{same_name}
use Rattle.names.specs.Wire.{Labels, is_labels}
use Rattle.books.proofs.Keeps.{entry_with, entry_without}
use Rattle.books.specs.Held.{Entry, Held, rises, entry_of, without_name}
use Rattle.journal.proofs.Lists.{same_held}
use Rattle.journal.specs.Notes.{Noted, Notes, is_put, entry_noted, name_noted, held_after, held_from, held_by, mentions}
use Rattle.journal.specs.Rising.{are_names, none_without, rises_after, notes_rise}

-- what the newest note of n says: the entry that it puts
abbrev pub newest : Labels → Notes → Option Entry
newest n [] = None
newest n (x ∷ xs) = cond (mentions n xs) (newest n xs) (cond (is_put x && same_name n (name_noted x)) (Some (entry_noted x)) None)

pub newest_none : (n : Labels) (xs : Notes) → mentions n xs ≡ false → newest n xs ≡ None
newest_none n [] h = refl
newest_none n (x ∷ xs) h =
    let r = newest_none n xs in
    let s = cases_Bool (same_name n (name_noted x)) in
    let t = cases_Bool (mentions n xs) in
    let p = cases_Bool (is_put x) in
    grind (arith, nat_tests)

-- the same name is mentioned alike
pub mentions_same : (n m : Labels) (xs : Notes) → same_name n m ≡ true → mentions n xs ≡ mentions m xs
mentions_same n m xs h = ap (λ y. mentions y xs) (((names_decide n m).0) h)

-- one note
entry_after_lem : (n : Labels) (x : Noted) (hs : Held) → rises hs ≡ true → entry_of n (held_after x hs) ≡ cond (same_name n (name_noted x)) (cond (is_put x) (Some (entry_noted x)) None) (entry_of n hs)
entry_after_lem n x hs h =
    let w = entry_without n (name_noted x) hs h in
    let k = none_without (name_noted x) hs h in
    let e = entry_with n (entry_noted x) (without_name (name_noted x) hs) k in
    let s = cases_Bool (same_name n (name_noted x)) in
    let p = cases_Bool (is_put x) in
    grind (arith, nat_tests)

pub entry_from : (n : Labels) (hs : Held) (xs : Notes) → are_names xs ≡ true → rises hs ≡ true → entry_of n (held_from hs xs) ≡ cond (mentions n xs) (newest n xs) (entry_of n hs)
entry_from n hs [] i h = refl
entry_from n hs (x ∷ xs) i h =
    let a = and_parts (is_labels (name_noted x)) (are_names xs) i in
    let r = entry_from n (held_after x hs) xs a.1 (rises_after x hs a.0 h) in
    let e = entry_after_lem n x hs h in
    let s = cases_Bool (same_name n (name_noted x)) in
    let t = cases_Bool (mentions n xs) in
    let p = cases_Bool (is_put x) in
    grind (arith, nat_tests)

pub entry_newest : (n : Labels) (xs : Notes) → are_names xs ≡ true → entry_of n (held_by xs) ≡ newest n xs
entry_newest n xs i =
    let e = entry_from n [] xs i refl in
    let z = newest_none n xs in
    let t = cases_Bool (mentions n xs) in
    grind (arith, nat_tests)

-- notes that say the same of each name hold the same
pub same_by_newest : (xs : Notes) (hs : Held) → are_names xs ≡ true → rises hs ≡ true → ((n : Labels) → entry_of n hs ≡ newest n xs) → held_by xs ≡ hs
same_by_newest xs hs i h f = same_held (held_by xs) hs (notes_rise xs i) h (λ n. entry_newest n xs i ∙ sym (f n))
