-- The note that has the least name greater than a name, looked for from the newest note back.
use Rattle.std.proofs.Common.{◌≡◌, ℕ, Bool, ◌+◌, ◌<◌, true, false, cond, ◌&&◌, List, [], ◌∷◌, ◌++◌, length, get_or, drop, is_some, Some, None, Option, sym, refl, ap, ◌∙◌, ap₂, subst, arith}
use Rattle.std.proofs.lemmas.List.{append_assoc, length-append, drop_at}
use Rattle.std.proofs.Math.Seq.{get_or-append_seam}
use Rattle.std.proofs.lemmas.Bool.{cases_Bool, and_parts}
use Rattle.std.proofs.lemmas.Bool.Decides.{nat_tests}
use Rattle.std.specs.Option.{option_map}
use Rattle.names.specs.View.{labels}
use Rattle.names.specs.Wire.{Labels}
use Rattle.names.specs.declared.name.Name.{Name}
use Rattle.books.specs.Held.{Entry, less, entry_after}
use Rattle.journal.proofs.Best.{before, after_more}
use Rattle.journal.proofs.Places.{here, names_from, entry_here, entry_live}
use Rattle.journal.specs.Notes.{Notes, entry_noted, name_noted, held_by, is_live, entry_at}
use Rattle.journal.specs.Rising.{are_names}
use Rattle.journal.specs.View.{note_contents, shown}
use Rattle.journal.specs.declared.note.Note.{Note}

-- the index and the name of the note that is the first after a name among those from an index on
abbrev pub found_as : Notes → ℕ × Name → Option Entry × Labels
found_as xs p = (entry_at xs p.0, labels p.1)

abbrev pub entry_as : Entry → Option Entry × Labels
entry_as e = (Some e, e.0)

abbrev pub IsNearest : Labels → Notes → ℕ → Option (ℕ × Name) → Type 0
IsNearest n xs i best = option_map (found_as xs) best ≡ option_map entry_as (entry_after n (held_by (drop i xs)))

-- a name comes before that note, if there is one
abbrev pub nearer : Labels → Option (ℕ × Name) → Bool
nearer m None = true
nearer m (Some p) = less m (labels p.1)

pub after_here : (n m : Labels) (ns : List Note) (i : ℕ) (x : Note) → i < length ns → x ≡ get_or ns i x → m ≡ name_noted (note_contents x)
    → entry_after n (held_by (drop i (shown ns))) ≡ cond (less n m && (before m (entry_after n (held_by (drop (i + 1) (shown ns)))) && is_some (entry_at (shown ns) i))) (entry_at (shown ns) i) (entry_after n (held_by (drop (i + 1) (shown ns))))
after_here n m ns i x h e k =
    let w = here ns i x h e in
    let a = ap (λ ys. entry_after n (held_by ys)) w ∙ after_more n (note_contents x) (drop (i + 1) (shown ns)) (ap are_names (sym w) ∙ names_from ns i) in
    let d = entry_here ns i x h e in
    let c = cases_Bool (is_live (note_contents x) (drop (i + 1) (shown ns))) in
    let p = ap (less n) k in
    let q = ap (λ y. before y (entry_after n (held_by (drop (i + 1) (shown ns))))) k in
    let u = cases_Bool (less n m) in
    let v = cases_Bool (before m (entry_after n (held_by (drop (i + 1) (shown ns))))) in
    grind (arith, nat_tests)

nearer_by : (xs : Notes) (m : Labels) (best : Option (ℕ × Name)) (o : Option Entry) → option_map (found_as xs) best ≡ option_map entry_as o → nearer m best ≡ before m o
nearer_by xs m None None h = refl
nearer_by xs m None (Some e) h = cc
nearer_by xs m (Some p) None h = cc
nearer_by xs m (Some p) (Some e) h = let q : labels p.1 ≡ e.0 = let w : found_as xs p ≡ entry_as e = cc in ap (λ y. y.1) w in ap (less m) q

-- a note is taken for it: its name is greater, comes before the other, and it is live
abbrev pub is_taken : Labels → Labels → Option (ℕ × Name) → Option Entry → Bool
is_taken n m best o = nearer m best && (less n m && is_some o)

pub not_less : (n m : Labels) (best : Option (ℕ × Name)) (o : Option Entry) → less n m ≡ false → is_taken n m best o ≡ false
not_less n m best o h = let c = cases_Bool (nearer m best) in grind (arith, nat_tests)

pub not_live : (n m : Labels) (best : Option (ℕ × Name)) (o : Option Entry) → is_some o ≡ false → is_taken n m best o ≡ false
not_live n m best o h = let c = cases_Bool (nearer m best) in let d = cases_Bool (less n m) in grind (arith, nat_tests)

nearest_by : (n m : Labels) (ns : List Note) (i : ℕ) (x : Note) (best : Option (ℕ × Name)) → i < length ns → x ≡ get_or ns i x → m ≡ name_noted (note_contents x) → IsNearest n (shown ns) (i + 1) best
    → entry_after n (held_by (drop i (shown ns))) ≡ cond (is_taken n m best (entry_at (shown ns) i)) (entry_at (shown ns) i) (entry_after n (held_by (drop (i + 1) (shown ns))))
nearest_by n m ns i x best h e k p =
    let b = nearer_by (shown ns) m best (entry_after n (held_by (drop (i + 1) (shown ns)))) p in
    let a = after_here n m ns i x h e k in
    let c = cases_Bool (nearer m best) in
    let d = cases_Bool (less n m) in
    grind (arith, nat_tests)

taken : (n : Labels) (m : Name) (ns : List Note) (i : ℕ) (x : Note) (best : Option (ℕ × Name)) → i < length ns → x ≡ get_or ns i x → labels m ≡ name_noted (note_contents x) → IsNearest n (shown ns) (i + 1) best → is_taken n (labels m) best (entry_at (shown ns) i) ≡ true → IsNearest n (shown ns) i (Some (i, m))
taken n m ns i x best h e k p t =
    let l = (and_parts _ _ (and_parts (nearer (labels m) best) _ t).1).1 in
    let v = entry_live ns i x h e l in
    let w : entry_after n (held_by (drop i (shown ns))) ≡ Some (entry_noted (note_contents x)) = nearest_by n (labels m) ns i x best h e k p ∙ rw t v in
    ap₂ (λ o y. Some (o, y)) v k ∙ sym (ap (option_map entry_as) w)

-- one step back: the notes that are left, and what is nearest with the note behind them
pub record Back (n : Labels) (ns left : List Note) (m : Name) (best : Option (ℕ × Name)) : Type 0 where
  pub front : left ++ drop (length left) ns ≡ ns
  pub taken : is_taken n (labels m) best (entry_at (shown ns) (length left)) ≡ true → IsNearest n (shown ns) (length left) (Some (length left, m))
  pub kept : is_taken n (labels m) best (entry_at (shown ns) (length left)) ≡ false → IsNearest n (shown ns) (length left) best

pub back : (n : Labels) (ns old left : List Note) (x : Note) (m : Name) (best : Option (ℕ × Name)) → old ++ drop (length old) ns ≡ ns → old ≡ left ++ (x ∷ []) → labels m ≡ name_noted (note_contents x) → IsNearest n (shown ns) (length old) best → Back n ns left m best
back n ns old left x m best f e k p =
    let r = drop (length old) ns in
    let g : ns ≡ left ++ (x ∷ r) = sym f ∙ ap (λ ys. ys ++ r) e ∙ append_assoc left (x ∷ []) r in
    let d : drop (length left) ns ≡ x ∷ r = ap (drop (length left)) g ∙ drop_at left (x ∷ r) (length left) refl in
    let at : x ≡ get_or ns (length left) x = sym (ap (λ ys. get_or ys (length left) x) g ∙ get_or-append_seam left x r x) in
    let l = ap length g in
    let h = length-append left (x ∷ r) in
    let within : length left < length ns = omega arith in
    let j : length old ≡ length left + 1 = ap length e ∙ length-append left (x ∷ []) in
    let q : IsNearest n (shown ns) (length left + 1) best = subst (λ y. IsNearest n (shown ns) y best) j p in
    record {
      front = ap (λ ys. left ++ ys) d ∙ sym g;
      taken = taken n m ns (length left) x best within at k q;
      kept = λ t. q ∙ sym (ap (option_map entry_as) (nearest_by n (labels m) ns (length left) x best within at k q ∙ rw t refl));
    }
