-- What is held once a name is put or taken.
use Rattle.std.proofs.Common.{◌≡◌, ℕ, Bool, true, false, cond, not, ◌&&◌, ltb, [], ◌∷◌, ◌++◌, map, length, take, replicate, is_some, is_ok, Some, None, Option, sym, refl, ap, ◌∙◌, ap₂, arith}
use Rattle.std.proofs.lemmas.List.{take_at, length-map}
use Rattle.std.proofs.lemmas.Bool.{false≢true, cases_Bool, and_parts}
use Rattle.std.proofs.lemmas.Bool.Decides.{nat_tests}
use Rattle.names.specs.Orders.{names_decide}
use Rattle.names.proofs.Undo.{wire_labels, labels_wire}
use Rattle.names.specs.Canonical.{same_name}
use Rattle.names.specs.Types.{Words, no_types}
use Rattle.names.specs.Wire.{Octets, Labels, is_name, is_labels, labels_of, lower, written}
use Rattle.books.proofs.Keeps.{rises_without, entry_without}
use Rattle.books.specs.Answers.{of_name, put_name, take_name, put_held, take_held}
use Rattle.books.specs.Held.{Held, entry_of, with_entry, without_name}
use Rattle.books.specs.Stored.{stored}
use Rattle.journal.proofs.Compact.{held_compacted, compacted_names}
use Rattle.journal.proofs.Lists.{without_none}
use Rattle.journal.proofs.Newest.{newest, newest_none, entry_newest, same_by_newest}
use Rattle.journal.specs.Notes.{Noted, puts, takes, Notes, entry_shown, name_noted, held_after, held_from, held_by, mentions, without, readied, notes_after_put, take_noted, notes_after_take}
use Rattle.books.specs.Held.{one_each}
use Rattle.journal.specs.Rising.{are_names, notes_rise}

-- what a slot shows in which a name was stored
pub stored_shown : (s : Octets) (ws : Words) → is_name s ≡ true → entry_shown (stored s ws) ≡ (labels_of s, ws)
stored_shown s ws h =
    let w = wire_labels s h in
    let t : take (length s) (written (map lower s) (replicate 255 0)) ≡ map lower s = take_at (map lower s) _ (length s) (length-map s lower) in
    let l : labels_of (map lower s) ≡ labels_of s = ap labels_of (sym w.1) ∙ labels_wire (labels_of s) w.0 in
    ap (λ n. (n, ws)) (ap labels_of t ∙ l)

-- one note more at the end
held_more : (hs : Held) (xs : Notes) (x : Noted) → held_from hs (xs ++ (x ∷ [])) ≡ held_after x (held_from hs xs)
held_more hs [] x = refl
held_more hs (y ∷ ys) x = held_more (held_after y hs) ys x

-- the notes without a name
mentions_without : (n m : Labels) (xs : Notes) → mentions n (without m xs) ≡ (not (same_name n m) && mentions n xs)
mentions_without n m [] = let s = cases_Bool (same_name n m) in grind (arith, nat_tests)
mentions_without n m (x ∷ xs) =
    let r = mentions_without n m xs in
    let s = cases_Bool (same_name n m) in
    let t = cases_Bool (same_name m (name_noted x)) in
    let u = cases_Bool (same_name n (name_noted x)) in
    let p = (names_decide n m).0 in
    let q : n ≡ m → same_name n (name_noted x) ≡ same_name m (name_noted x) = λ z. ap (λ y. same_name y (name_noted x)) z in
    let p2 = (names_decide m (name_noted x)).0 in
    let q2 : m ≡ name_noted x → same_name n m ≡ same_name n (name_noted x) = λ z. ap (same_name n) z in
    grind (arith, nat_tests)

newest_without : (n m : Labels) (xs : Notes) → newest n (without m xs) ≡ cond (same_name n m) None (newest n xs)
newest_without n m [] = let s = cases_Bool (same_name n m) in grind (arith, nat_tests)
newest_without n m (x ∷ xs) =
    let r = newest_without n m xs in
    let w = mentions_without n m xs in
    let s = cases_Bool (same_name n m) in
    let t = cases_Bool (same_name m (name_noted x)) in
    let u = cases_Bool (same_name n (name_noted x)) in
    let v = cases_Bool (mentions n xs) in
    let z = newest_none n xs in
    let p = (names_decide n m).0 in
    let q : n ≡ m → same_name n (name_noted x) ≡ same_name m (name_noted x) = λ z. ap (λ y. same_name y (name_noted x)) z in
    let p2 = (names_decide m (name_noted x)).0 in
    let q2 : m ≡ name_noted x → same_name n m ≡ same_name n (name_noted x) = λ z. ap (same_name n) z in
    grind (arith, nat_tests)

without_names : (n : Labels) (xs : Notes) → are_names xs ≡ true → are_names (without n xs) ≡ true
without_names n [] i = refl
without_names n (x ∷ xs) i =
    let a = and_parts (is_labels (name_noted x)) (are_names xs) i in
    let r = without_names n xs a.1 in
    let c = cases_Bool (same_name n (name_noted x)) in
    grind (arith, nat_tests)

held_without : (n : Labels) (xs : Notes) → are_names xs ≡ true → held_by (without n xs) ≡ without_name n (held_by xs)
held_without n xs i =
    let h = notes_rise xs i in
    same_by_newest (without n xs) (without_name n (held_by xs)) (without_names n xs i) (rises_without n (held_by xs) h)
    (λ m. entry_without m n (held_by xs) h ∙ ap (cond (same_name m n) None) (entry_newest m xs i) ∙ sym (newest_without m n xs))

held_readied : (capacity : ℕ) (xs : Notes) → are_names xs ≡ true → held_by (readied capacity xs) ≡ held_by xs
held_readied capacity xs i =
    let c = cases_Bool (ltb (length xs) capacity) in
    let h = held_compacted xs i in
    grind (arith, nat_tests)

same_cond : {A B : Type 0} (b : Bool) (f : A → B) (x y : A) (u v : B) → (b ≡ true → f x ≡ u) → (b ≡ false → f y ≡ v) → f (cond b x y) ≡ cond b u v
same_cond true f x y u v p q = p refl
same_cond false f x y u v p q = q refl

pub none_from : {X : Type 0} (o : Option X) → is_some o ≡ false → o ≡ None
none_from None h = refl
none_from (Some e) h = absurd (false≢true (sym h))

-- what a put or a take that is not refused tells
put_name_lem : (capacity : ℕ) (hs : Held) (s : Octets) → is_ok (of_name s (put_name capacity one_each hs)) ≡ true → (is_name s ≡ true) × (entry_of (labels_of s) hs ≡ None)
put_name_lem capacity hs s h =
    let a = cases_Bool (is_name s) in
    let b = cases_Bool (is_some (entry_of (labels_of s) hs)) in
    let n = none_from (entry_of (labels_of s) hs) in
    (grind (arith, nat_tests), grind (arith, nat_tests))

take_name_lem : (hs : Held) (s : Octets) → is_ok (of_name s (take_name hs)) ≡ true → is_name s ≡ true
take_name_lem hs s h = let a = cases_Bool (is_name s) in grind (arith, nat_tests)

pub held_after_put : (capacity : ℕ) (xs : Notes) (s : Octets) (ws : Words) → are_names xs ≡ true → held_by (notes_after_put capacity xs s ws) ≡ put_held capacity one_each (held_by xs) s ws
held_after_put capacity xs s ws i =
    same_cond (is_ok (of_name s (put_name capacity one_each (held_by xs)))) held_by _ xs _ (held_by xs)
    (λ h.
    let p = put_name_lem capacity (held_by xs) s h in
    held_more [] (readied capacity xs) (puts (stored s ws))
    ∙ ap₂ (λ e hs. with_entry e (without_name e.0 hs)) (stored_shown s ws p.0) (held_readied capacity xs i)
    ∙ ap (with_entry (labels_of s, ws)) (without_none (labels_of s) (held_by xs) p.1))
    (λ h. refl)

held_taken : (capacity : ℕ) (xs : Notes) (s : Octets) → are_names xs ≡ true → is_name s ≡ true → held_by (take_noted capacity xs s) ≡ without_name (labels_of s) (held_by xs)
held_taken capacity xs s i n =
    let a = held_more [] xs (takes (stored s no_types)) ∙ ap (λ e. without_name e.0 (held_by xs)) (stored_shown s no_types n) in
    let b = held_without (labels_of s) xs i in
    let c = cases_Bool (ltb (length xs) capacity) in
    grind (arith, nat_tests)

readied_names : (capacity : ℕ) (xs : Notes) → are_names xs ≡ true → are_names (readied capacity xs) ≡ true
readied_names capacity xs i =
    let c = cases_Bool (ltb (length xs) capacity) in
    let h = compacted_names xs i in
    grind (arith, nat_tests)

pub held_after_take : (capacity : ℕ) (xs : Notes) (s : Octets) → are_names xs ≡ true → held_by (notes_after_take capacity xs s) ≡ take_held (held_by xs) s
held_after_take capacity xs s i =
    same_cond (is_ok (of_name s (take_name (held_by xs)))) held_by _ xs _ (held_by xs)
    (λ h. held_taken capacity (readied capacity xs) s (readied_names capacity xs i) (take_name_lem (held_by xs) s h) ∙ ap (without_name (labels_of s)) (held_readied capacity xs i))
    (λ h. refl)
