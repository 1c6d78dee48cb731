-- The notes by their indices.
use Rattle.std.proofs.Common.{◌≡◌, ℕ, zero, suc, Bool, ◌+◌, ◌-◌, ◌<◌, ◌≤◌, true, false, cond, ◌||◌, List, [], ◌∷◌, ◌++◌, length, get_or, take, drop, is_some, Some, None, Option, sym, refl, ap, ◌∙◌, ap₂, arith}
use Rattle.std.proofs.lemmas.List.{take_rest, drop-map, drop_more, take_more}
use Rattle.std.proofs.lemmas.Bool.{cases_Bool}
use Rattle.std.proofs.lemmas.Bool.Decides.{nat_tests}
use Rattle.std.specs.Bool.{then_some}
use Rattle.std.specs.List.{list_any}
use Rattle.std.specs.Option.{option_map}
use Rattle.names.specs.Canonical.{same_name}
use Rattle.names.specs.Wire.{Labels}
use Rattle.books.specs.Answers.{some}
use Rattle.books.specs.Held.{Entry, entry_of}
use Rattle.books.specs.Stored.{entry_in}
use Rattle.books.specs.declared.named.Named.{Named}
use Rattle.journal.proofs.Newest.{newest, newest_none, mentions_same, entry_newest}
use Rattle.journal.specs.Notes.{Notes, is_put, entry_noted, name_noted, held_by, mentions, is_live, live_entry, entry_at}
use Rattle.journal.specs.Rising.{are_names, notes_names}
use Rattle.journal.specs.View.{note_contents, shown}
use Rattle.journal.specs.declared.note.Note.{Note}
use Rattle.journal.specs.declared.note.Note.TheVariants.{Put, Take}

-- the notes from an index on
pub here : (ns : List Note) (i : ℕ) (x : Note) → i < length ns → x ≡ get_or ns i x → drop i (shown ns) ≡ note_contents x ∷ drop (i + 1) (shown ns)
here ns i x h e =
    drop-map note_contents i ns ∙ ap shown (drop_more ns i x h)
    ∙ ap₂ (λ y ys. note_contents y ∷ ys) (sym e) (sym (drop-map note_contents (i + 1) ns))

pub names_from : (ns : List Note) (i : ℕ) → are_names (drop i (shown ns)) ≡ true
names_from ns i = ap are_names (drop-map note_contents i ns) ∙ notes_names (drop i ns)

-- a name is mentioned where one of the notes names it
abbrev pub names_it : Labels → Note → Bool
names_it n x = same_name n (name_noted (note_contents x))

pub mentions_any : (n : Labels) (ns : List Note) → list_any (names_it n) ns ≡ mentions n (shown ns)
mentions_any n [] = refl
mentions_any n (x ∷ xs) = ap (λ b. names_it n x || b) (mentions_any n xs)

pub mentions_none : (n : Labels) (ns : List Note) (i : ℕ) → ((k : ℕ) (d : Note) → i ≤ k → k < length ns → names_it n (get_or ns k d) ≡ false) → mentions n (drop i (shown ns)) ≡ false
mentions_none n [] zero h = refl
mentions_none n [] (suc i) h = refl
mentions_none n (x ∷ xs) zero h = ap₂ ◌||◌ (h 0 x (omega arith) (omega arith)) (mentions_none n xs 0 (λ k d l m. h (suc k) d (omega arith) (omega arith)))
mentions_none n (x ∷ xs) (suc i) h = mentions_none n xs i (λ k d l m. h (suc k) d (omega arith) (omega arith))

pub entry_here : (ns : List Note) (i : ℕ) (x : Note) → i < length ns → x ≡ get_or ns i x → entry_at (shown ns) i ≡ cond (is_live (note_contents x) (drop (i + 1) (shown ns))) (Some (entry_noted (note_contents x))) None
entry_here ns i x h e = ap live_entry (here ns i x h e)

-- where a put stands, and where a take does
pub entry_put : (ns : List Note) (i : ℕ) (x : Note) (e : Named) (n : Labels) (b : Bool) → i < length ns → x ≡ get_or ns i x → x ≡ Put e → n ≡ (entry_in e).0 → b ≡ mentions n (shown (take (length ns - (i + 1)) (drop (i + 1) ns))) → entry_at (shown ns) i ≡ cond b None (Some (entry_in e))
entry_put ns i x e n b h a p l m =
    let d = entry_here ns i x h a ∙ ap (λ y. cond (is_live (note_contents y) (drop (i + 1) (shown ns))) (Some (entry_noted (note_contents y))) None) p in
    let r : b ≡ mentions (entry_in e).0 (drop (i + 1) (shown ns)) =
    m ∙ ap₂ mentions l (ap shown (take_rest ns (i + 1)) ∙ sym (drop-map note_contents (i + 1) ns)) in
    let c = cases_Bool b in
    grind (arith, nat_tests)

pub entry_take : (ns : List Note) (i : ℕ) (x : Note) (e : Named) → i < length ns → x ≡ get_or ns i x → x ≡ Take e → entry_at (shown ns) i ≡ None
entry_take ns i x e h a p = entry_here ns i x h a ∙ ap (λ y. cond (is_live (note_contents y) (drop (i + 1) (shown ns))) (Some (entry_noted (note_contents y))) None) p

pub entry_live : (ns : List Note) (i : ℕ) (x : Note) → i < length ns → x ≡ get_or ns i x → is_some (entry_at (shown ns) i) ≡ true → entry_at (shown ns) i ≡ Some (entry_noted (note_contents x))
entry_live ns i x h e l =
    let d = entry_here ns i x h e in
    let c = cases_Bool (is_live (note_contents x) (drop (i + 1) (shown ns))) in
    grind (arith, nat_tests)

-- what stands at an index of a list
pub at : {X : Type 0} (xs : List X) (i : ℕ) → i < length xs → (x : X) × (drop i xs ≡ x ∷ drop (i + 1) xs) × (take (i + 1) xs ≡ take i xs ++ (x ∷ []))
at [] i h = absurd (omega arith)
at (y ∷ ys) i h = (get_or (y ∷ ys) i y, drop_more (y ∷ ys) i y h, take_more (y ∷ ys) i y h)

-- the newest note of a name
pub mentions_part : (n : Labels) (i : ℕ) (xs : Notes) → mentions n (drop i xs) ≡ true → mentions n xs ≡ true
mentions_part n zero xs h = h
mentions_part n (suc i) [] h = h
mentions_part n (suc i) (x ∷ xs) h = let r = mentions_part n i xs h in let s = cases_Bool (same_name n (name_noted x)) in grind (arith, nat_tests)

newest_part : (n : Labels) (i : ℕ) (xs : Notes) → mentions n (drop i xs) ≡ true → newest n xs ≡ newest n (drop i xs)
newest_part n zero xs h = refl
newest_part n (suc i) [] h = refl
newest_part n (suc i) (x ∷ xs) h = let r = newest_part n i xs h in let m = mentions_part n i xs h in grind (arith, nat_tests)

pub newest_here : (n : Labels) (ns : List Note) (i : ℕ) (x : Note) (r : Option ℕ) → i < length ns → x ≡ get_or ns i x → names_it n x ≡ true → mentions n (drop (i + 1) (shown ns)) ≡ false → r ≡ then_some (is_put (note_contents x)) i → option_map (entry_at (shown ns)) r ≡ some (entry_of n (held_by (shown ns)))
newest_here n ns i x r h e s f q =
    let a = entry_newest n (shown ns) (notes_names ns) in
    let m = ap (mentions n) (here ns i x h e) ∙ ap (λ b. b || mentions n (drop (i + 1) (shown ns))) s in
    let b = newest_part n i (shown ns) m ∙ ap (newest n) (here ns i x h e) in
    let d = entry_here ns i x h e in
    let g = mentions_same n (name_noted (note_contents x)) (drop (i + 1) (shown ns)) s in
    let p = cases_Bool (is_put (note_contents x)) in
    grind (arith, nat_tests)

pub never_noted : (n : Labels) (ns : List Note) → mentions n (shown ns) ≡ false → entry_of n (held_by (shown ns)) ≡ None
never_noted n ns h = entry_newest n (shown ns) (notes_names ns) ∙ newest_none n (shown ns) h

-- a mapped value is there where the value is
pub some_mapped : {X Y : Type 0} (f : X → Y) (o : Option X) (p : Option Y) → option_map f o ≡ p → is_some p ≡ is_some o
some_mapped f None p e = ap is_some (sym e)
some_mapped f (Some x) p e = ap is_some (sym e)

pub live_now : {X : Type 0} (f : X → Entry) (o : Option X) (ms ns : List Note) (i : ℕ) → option_map f o ≡ entry_at (shown ms) i → ms ≡ ns → is_some (entry_at (shown ns) i) ≡ is_some o
live_now f o ms ns i e q = ap (λ ys. is_some (entry_at (shown ys) i)) (sym q) ∙ some_mapped f o (entry_at (shown ms) i) e
