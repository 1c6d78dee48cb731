-- What a put or a take that finds room, or finds none, leaves.
use Rattle.std.proofs.Common.{◌≡◌, ℕ, zero, suc, ◌<◌, ◌≤◌, Bool, true, false, cond, not, ltb, List, [], ◌∷◌, ◌++◌, length, drop, is_some, Some, None, Ok, Err, Option, sym, refl, ap, ◌∙◌, ap₂, arith}
use Rattle.std.proofs.lemmas.List.{length-drop, length-map, length-take-le}
use Rattle.std.proofs.lemmas.Bool.{cases_Bool, and_parts}
use Rattle.std.proofs.lemmas.Bool.Decides.{nat_tests}
use Rattle.std.specs.List.{remove}
use Rattle.std.specs.Option.{option_map}
use Rattle.names.proofs.Reader.{some_same}
use Rattle.names.specs.Canonical.{same_name}
use Rattle.names.specs.Types.{Words, no_types}
use Rattle.names.specs.Wire.{Octets, Labels, is_name, labels_of}
use Rattle.names.specs.declared.refusal.Refusal.TheVariants.{BookFull}
use Rattle.books.specs.Answers.{of_name, put_name, take_name, some}
use Rattle.books.specs.Held.{Entry, Held, entry_of}
use Rattle.books.specs.Stored.{stored}
use Rattle.journal.proofs.Compact.{compacted_short, compacted_apart, apart, spent_live}
use Rattle.journal.proofs.Newest.{mentions_same}
use Rattle.journal.proofs.Places.{mentions_part}
use Rattle.journal.specs.Notes.{Noted, puts, takes, Notes, entry_noted, name_noted, held_by, mentions, is_live, compacted, live_entry, entry_at, without, readied, notes_after_put, take_noted, notes_after_take}
use Rattle.books.specs.Held.{one_each}
use Rattle.journal.specs.Rising.{are_names}
use Rattle.journal.specs.State.{notes_of, slots_of}
use Rattle.journal.specs.View.{note_contents, shown}
use Rattle.journal.specs.declared.journal.Journal.{Journal}
use Rattle.journal.specs.declared.note.Note.{Note}

-- the notes fit the slots
pub notes_fit : (j : Journal) → length (shown (notes_of j)) ≤ slots_of j
notes_fit j =
    let k = length-map (notes_of j) note_contents in
    let t = length-take-le j.shelf.count j.shelf.slots.now j.shelf.fits in
    let f : j.shelf.count ≤ length j.shelf.slots.now = j.shelf.fits in
    omega arith

-- a name was read: the octets are a name
pub read_some : {X : Type 0} (b : Bool) (x y : X) → Some x ≡ cond b (Some y) None → (b ≡ true) × (x ≡ y)
read_some true x y h = (refl, some_same x y h)
read_some false x y h = cc

held_or_not : (f : ℕ → Option Entry) (r : Option ℕ) (o : Option Entry) → option_map f r ≡ some o → is_some r ≡ is_some o
held_or_not f None None p = refl
held_or_not f None (Some e) p = cc
held_or_not f (Some i) None p = cc
held_or_not f (Some i) (Some e) p = refl

-- octets were read as a name, and its put was looked for
pub record Sought (s : Octets) (ns : List Note) (r : Option ℕ) : Type 0 where
  pub name : is_name s ≡ true
  pub place : option_map (entry_at (shown ns)) r ≡ some (entry_of (labels_of s) (held_by (shown ns)))
  pub held : is_some (entry_of (labels_of s) (held_by (shown ns))) ≡ is_some r

pub sought : (s : Octets) (ws : Words) (e : Entry) (n : Labels) (ms ns : List Note) (r : Option ℕ)
    → Some e ≡ cond (is_name s) (Some (labels_of s, ws)) None
    → n ≡ e.0
    → ms ≡ ns
    → option_map (entry_at (shown ms)) r ≡ some (entry_of n (held_by (shown ms)))
    → Sought s ns r
sought s ws e n ms ns r h k q p =
    let d = read_some (is_name s) e (labels_of s, ws) h in
    let l : n ≡ labels_of s = k ∙ ap (λ z. z.0) d.1 in
    let a = ap (λ ys. option_map (entry_at (shown ys)) r) (sym q) ∙ p ∙ ap₂ (λ m ys. some (entry_of m (held_by (shown ys)))) l q in
    record { name = d.0; place = a; held = sym (held_or_not (entry_at (shown ns)) r (entry_of (labels_of s) (held_by (shown ns))) a) }

-- a slot is free once the notes are readied exactly if not all slots have live notes
pub room_readied : (capacity : ℕ) (xs : Notes) → ltb (length (readied capacity xs)) capacity ≡ ltb (length (compacted xs)) capacity
room_readied capacity xs =
    let s = compacted_short xs in
    let c = cases_Bool (ltb (length xs) capacity) in
    grind (arith, nat_tests)

-- notes that are all live
all_live_same : (xs : Notes) → length xs ≤ length (compacted xs) → compacted xs ≡ xs
all_live_same [] h = refl
all_live_same (x ∷ xs) h =
    let r = all_live_same xs in
    let s = compacted_short xs in
    let c = cases_Bool (is_live x xs) in
    grind (arith, nat_tests)

-- where all slots have live notes, the notes stay as they were
pub readied_full : (capacity : ℕ) (xs : Notes) → length xs ≤ capacity → false ≡ ltb (length (compacted xs)) capacity → readied capacity xs ≡ xs
readied_full capacity xs k l =
    let c = compacted_short xs in
    let m : length xs ≤ length (compacted xs) = grind (arith, nat_tests) in
    let q = all_live_same xs m in
    grind (arith, nat_tests)

-- a put of a name that is not held
put_answer : (capacity : ℕ) (xs : Notes) (s : Octets) → are_names xs ≡ true → is_name s ≡ true → is_some (entry_of (labels_of s) (held_by xs)) ≡ false
    → of_name s (put_name capacity one_each (held_by xs)) ≡ cond (ltb (length (compacted xs)) capacity) (Ok tt) (Err BookFull)
put_answer capacity xs s i n h = let p = spent_live xs i in grind (arith, nat_tests)

pub put_full : (capacity : ℕ) (xs : Notes) (s : Octets) (ws : Words) → are_names xs ≡ true → is_name s ≡ true → is_some (entry_of (labels_of s) (held_by xs)) ≡ false → length xs ≤ capacity → false ≡ ltb (length (compacted xs)) capacity
    → (Err BookFull ≡ of_name s (put_name capacity one_each (held_by xs))) × (readied capacity xs ≡ notes_after_put capacity xs s ws)
put_full capacity xs s ws i n h k l =
    let a = put_answer capacity xs s i n h in
    let w = readied_full capacity xs k l in
    (grind (arith, nat_tests), grind (arith, nat_tests))

pub put_done : (capacity : ℕ) (xs : Notes) (s : Octets) (ws : Words) → are_names xs ≡ true → is_name s ≡ true → is_some (entry_of (labels_of s) (held_by xs)) ≡ false → true ≡ ltb (length (compacted xs)) capacity
    → (Ok tt ≡ of_name s (put_name capacity one_each (held_by xs))) × (readied capacity xs ++ (puts (stored s ws) ∷ []) ≡ notes_after_put capacity xs s ws)
put_done capacity xs s ws i n h l = let a = put_answer capacity xs s i n h in (grind (arith, nat_tests), grind (arith, nat_tests))

pub readied_room : (capacity : ℕ) (xs : Notes) → true ≡ ltb (length (compacted xs)) capacity → length (readied capacity xs) < capacity
readied_room capacity xs l = grind (arith, nat_tests)

-- a take of a name that is held
pub take_answer : (xs : Notes) (s : Octets) → is_name s ≡ true → is_some (entry_of (labels_of s) (held_by xs)) ≡ true → Ok tt ≡ of_name s (take_name (held_by xs))
take_answer xs s n h = grind (arith, nat_tests)

pub take_done : (capacity : ℕ) (xs : Notes) (s : Octets) → is_name s ≡ true → is_some (entry_of (labels_of s) (held_by xs)) ≡ true → true ≡ ltb (length (compacted xs)) capacity
    → readied capacity xs ++ (takes (stored s no_types) ∷ []) ≡ notes_after_take capacity xs s
take_done capacity xs s n h l = let r = readied_room capacity xs l in grind (arith, nat_tests)

without_other : (n : Labels) (xs : Notes) → mentions n xs ≡ false → without n xs ≡ xs
without_other n [] h = refl
without_other n (x ∷ xs) h = let r = without_other n xs in let s = cases_Bool (same_name n (name_noted x)) in grind (arith, nat_tests)

removed_without : (n : Labels) (xs : Notes) (i : ℕ) (y : Noted) (rest : Notes) → apart xs ≡ true → drop i xs ≡ y ∷ rest → same_name n (name_noted y) ≡ true → remove xs i ≡ without n xs
removed_without n [] i y rest a e s = absurd (let l = ap length e in let d = length-drop {A = Noted} i [] in omega arith)
removed_without n (x ∷ xs) zero y rest a e s =
    let q : x ≡ y = cc in
    let s2 : same_name n (name_noted x) ≡ true = ap (λ z. same_name n (name_noted z)) q ∙ s in
    let m = mentions_same n (name_noted x) xs s2 in
    let r = without_other n xs in
    grind (arith, nat_tests)
removed_without n (x ∷ xs) (suc i) y rest a e s =
    let p = and_parts (not (mentions (name_noted x) xs)) (apart xs) a in
    let r = removed_without n xs i y rest p.1 e s in
    let m : mentions n xs ≡ true = mentions_part n i xs (ap (mentions n) e ∙ rw s) in
    let k = mentions_same n (name_noted x) xs in
    let b = cases_Bool (same_name n (name_noted x)) in
    grind (arith, nat_tests)

-- an index that was found has a note of the name
entry_named : (n : Labels) (hs : Held) (e : Entry) → entry_of n hs ≡ Some e → same_name n e.0 ≡ true
entry_named n [] e h = cc
entry_named n (f ∷ fs) e h =
    let s = cases_Bool (same_name n f.0) in
    let r = entry_named n fs e in
    let q : f ≡ e → same_name n f.0 ≡ same_name n e.0 = λ z. ap (λ y. same_name n y.0) z in
    grind (arith, nat_tests)

record Found (n : Labels) (ds : Notes) : Type 0 where
  pub note : Noted
  pub later : Notes
  pub is : ds ≡ note ∷ later
  pub same : same_name n (name_noted note) ≡ true

found_by : (n : Labels) (ds : Notes) (o : Option Entry) → ((e : Entry) → o ≡ Some e → same_name n e.0 ≡ true) → Some (live_entry ds) ≡ some o → Found n ds
found_by n [] None f p = cc
found_by n [] (Some e) f p = cc
found_by n (y ∷ ys) None f p = cc
found_by n (y ∷ ys) (Some e) f p =
    let c = cases_Bool (is_live y ys) in
    let q : entry_noted y ≡ e = grind (arith, nat_tests) in
    record { note = y; later = ys; is = refl; same = ap (λ z. same_name n z.0) q ∙ f e refl }

found : (n : Labels) (xs : Notes) (i : ℕ) → Some (entry_at xs i) ≡ some (entry_of n (held_by xs)) → Found n (drop i xs)
found n xs i p = found_by n (drop i xs) (entry_of n (held_by xs)) (entry_named n (held_by xs)) p

-- an index that was found is one of the notes
pub found_within : (n : Labels) (xs : Notes) (i : ℕ) → Some (entry_at xs i) ≡ some (entry_of n (held_by xs)) → i < length xs
found_within n xs i p = let d = length-drop i xs in let l = ap length (found n xs i p).is in omega arith

-- a take where all slots have live notes
pub take_full : (capacity : ℕ) (xs : Notes) (s : Octets) (i : ℕ) → is_name s ≡ true → length xs ≤ capacity → false ≡ ltb (length (compacted xs)) capacity → Some (entry_at xs i) ≡ some (entry_of (labels_of s) (held_by xs))
    → remove (readied capacity xs) i ≡ notes_after_take capacity xs s
take_full capacity xs s i n k l p =
    let f = found (labels_of s) xs i p in
    let h = sym (held_or_not (entry_at xs) (Some i) (entry_of (labels_of s) (held_by xs)) p) in
    let c = compacted_short xs in
    let m : length xs ≤ length (compacted xs) = grind (arith, nat_tests) in
    let q = all_live_same xs m in
    let a : apart xs ≡ true = ap apart (sym q) ∙ compacted_apart xs in
    let r = removed_without (labels_of s) xs i f.note f.later a f.is f.same in
    let w = readied_full capacity xs k l in
    let t : take_noted capacity xs s ≡ without (labels_of s) xs = grind (arith, nat_tests) in
    let b : notes_after_take capacity xs s ≡ take_noted capacity (readied capacity xs) s = grind (arith, nat_tests) in
    ap (λ ys. remove ys i) w ∙ r ∙ sym t ∙ ap (λ ys. take_noted capacity ys s) (sym w) ∙ sym b
