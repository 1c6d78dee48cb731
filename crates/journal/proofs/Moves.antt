-- The notes once one is added or removed, and the steps of a compaction.
use Rattle.std.proofs.Common.{◌≡◌, ℕ, suc, ◌+◌, ◌<◌, true, false, List, [], ◌∷◌, ◌++◌, length, take, drop, is_some, sym, ap, ◌∙◌, ap₂, ⊎_elim, add-one, arith}
use Rattle.std.proofs.lemmas.List.{length-take-le, length-map, take-map, drop-map, map-append, take_at, drop_at, append_assoc, at_drop_all}
use Rattle.std.proofs.lemmas.Bool.{false≢true, cases_Bool, cases_lt}
use Rattle.std.proofs.lemmas.Bool.Decides.{nat_tests}
use Rattle.std.specs.List.{remove}
use Rattle.journal.proofs.Places.{at}
use Rattle.journal.specs.Notes.{Notes, compacted, is_live, live_entry, entry_at}
use Rattle.journal.specs.View.{note_contents, shown}
use Rattle.journal.specs.declared.note.Note.{Note}

-- a live note stands at an index of the notes
pub live_within : (ns : List Note) (i : ℕ) → is_some (entry_at (shown ns) i) ≡ true → i < length ns
live_within ns i h =
    let k = length-map ns note_contents in
    ⊎_elim (λ l. l) (λ l. absurd (false≢true (sym (ap is_some (at_drop_all live_entry (shown ns) i (omega arith))) ∙ h))) (cases_lt i (length ns))

-- notes of which the first i are settled, as they will be when all are
abbrev pub settled : List Note → ℕ → Notes
settled ns i = take i (shown ns) ++ compacted (drop i (shown ns))

stays_by : (xs : Notes) (i : ℕ) → i < length xs → is_some (entry_at xs i) ≡ true → take (i + 1) xs ++ compacted (drop (i + 1) xs) ≡ take i xs ++ compacted (drop i xs)
stays_by xs i h l =
    let p = at xs i h in
    let a = ap live_entry p.1 in
    let c = cases_Bool (is_live p.0 (drop (i + 1) xs)) in
    let v : is_live p.0 (drop (i + 1) xs) ≡ true = grind (arith, nat_tests) in
    let b : compacted (drop i xs) ≡ p.0 ∷ compacted (drop (i + 1) xs) = ap compacted p.1 ∙ rw v in
    ap (λ ys. ys ++ compacted (drop (i + 1) xs)) p.2 ∙ append_assoc (take i xs) (p.0 ∷ []) (compacted (drop (i + 1) xs)) ∙ ap (λ ys. take i xs ++ ys) (sym b)

pub stays : (ns : List Note) (i : ℕ) → i < length ns → is_some (entry_at (shown ns) i) ≡ true → settled ns (i + 1) ≡ settled ns i
stays ns i h l = let k = length-map ns note_contents in stays_by (shown ns) i (omega arith) l

goes_by : (xs : Notes) (i : ℕ) → i < length xs → is_some (entry_at xs i) ≡ false → compacted (drop i xs) ≡ compacted (drop (suc i) xs)
goes_by xs i h l =
    let p = at xs i h in
    let a = ap live_entry p.1 in
    let c = cases_Bool (is_live p.0 (drop (i + 1) xs)) in
    let v : is_live p.0 (drop (i + 1) xs) ≡ false = grind (arith, nat_tests) in
    let b : compacted (drop i xs) ≡ compacted (drop (i + 1) xs) = ap compacted p.1 ∙ rw v in
    b ∙ ap (λ j. compacted (drop j xs)) (add-one i)

-- the notes that are left, shown
pub shown_removed : (ns : List Note) (i : ℕ) → shown (remove ns i) ≡ remove (shown ns) i
shown_removed ns i = map-append note_contents (take i ns) (drop (suc i) ns) ∙ ap₂ (λ a b. a ++ b) (sym (take-map note_contents i ns)) (sym (drop-map note_contents (suc i) ns))

pub goes : (ns : List Note) (i : ℕ) → i < length ns → is_some (entry_at (shown ns) i) ≡ false → settled (remove ns i) i ≡ settled ns i
goes ns i h l =
    let k = length-map ns note_contents in
    let t : length (take i (shown ns)) ≡ i = length-take-le i (shown ns) (omega arith) in
    let e = shown_removed ns i in
    ap₂ (λ a b. a ++ compacted b)
    (ap (take i) e ∙ take_at (take i (shown ns)) (drop (suc i) (shown ns)) i t)
    (ap (drop i) e ∙ drop_at (take i (shown ns)) (drop (suc i) (shown ns)) i t)
    ∙ ap (λ ys. take i (shown ns) ++ ys) (sym (goes_by (shown ns) i (omega arith) l))
