-- Rising lists: when two are the same, and what one entry more or less does.
use Rattle.std.proofs.Common.{◌≡◌, ◌+◌, true, false, cond, [], ◌∷◌, length, is_some, Some, None, sym, refl, ap, ◌∙◌, ap₂, arith}
use Rattle.std.proofs.lemmas.Bool.{false≢true, cases_Bool}
use Rattle.std.proofs.lemmas.Bool.Decides.{nat_tests}
use Rattle.std.proofs.lemmas.List.{append-nil}
use Rattle.std.specs.Ordering.{is_lt}
use Rattle.names.specs.Orders.{names_decide}
use Rattle.names.proofs.Ordered.{families, below_join}
use Rattle.names.specs.Canonical.{same_name, below}
use Rattle.names.specs.Wire.{Labels}
use Rattle.books.proofs.Keeps.{none_before}
use Rattle.books.proofs.Rising.{less_irreflexive, less_not_back, rises_tail}
use Rattle.books.specs.Held.{Entry, Held, less, rises_from, rises, entry_of, entry_after, first_entry, with_entry, without_name, spent}
use Rattle.journal.specs.Notes.{}
use Rattle.books.specs.Held.{one_each}

never : (e : Entry) → None ≡ Some e → ⊥
never e h = cc

-- two rising lists that begin with other names differ at one of these
same_first : (d e : Entry) (ds es : Held) → rises_from d.0 ds ≡ true → rises_from e.0 es ≡ true
    → Some d ≡ entry_of d.0 (e ∷ es)
    → entry_of e.0 (d ∷ ds) ≡ Some e
    → d ≡ e
same_first d e ds es h k f g =
    let s = cases_Bool (same_name d.0 e.0) in
    let t = cases_Bool (same_name e.0 d.0) in
    let u = none_before d.0 e.0 es k in
    let v = none_before e.0 d.0 ds h in
    let l = cases_Bool (less e.0 d.0) in
    let m = cases_Bool (less d.0 e.0) in
    let b = less_not_back d.0 e.0 in
    grind (arith, nat_tests)

-- what the tails of such lists have of a name
same_rest : (n : Labels) (d : Entry) (ds es : Held) → rises_from d.0 ds ≡ true → rises_from d.0 es ≡ true
    → entry_of n (d ∷ ds) ≡ entry_of n (d ∷ es)
    → entry_of n ds ≡ entry_of n es
same_rest n d ds es h k f =
    let s = cases_Bool (same_name n d.0) in
    let u = none_before n d.0 ds h in
    let v = none_before n d.0 es k in
    let i = less_irreflexive d.0 in
    let e = (names_decide n d.0).0 in
    let q : n ≡ d.0 → less d.0 n ≡ false = λ z. ap (less d.0) z ∙ i in
    grind (arith, nat_tests)

-- two rising lists are the same where they have the same of each name
pub same_held : (a b : Held) → rises a ≡ true → rises b ≡ true → ((n : Labels) → entry_of n a ≡ entry_of n b) → a ≡ b
same_held [] [] h k f = refl
same_held [] (e ∷ es) h k f = absurd (never e (f e.0 ∙ rw (((names_decide e.0 e.0).1 refl))))
same_held (d ∷ ds) [] h k f = absurd (never d (sym (f d.0) ∙ rw (((names_decide d.0 d.0).1 refl))))
same_held (d ∷ ds) (e ∷ es) h k f =
    let p : Some d ≡ entry_of d.0 (e ∷ es) = sym (rw (((names_decide d.0 d.0).1 refl))) ∙ f d.0 in
    let q : entry_of e.0 (d ∷ ds) ≡ Some e = f e.0 ∙ rw (((names_decide e.0 e.0).1 refl)) in
    let r = same_first d e ds es h k p q in
    let k2 : rises_from d.0 es ≡ true = ap (λ y. rises_from y.0 es) r ∙ k in
    let g : (n : Labels) → entry_of n ds ≡ entry_of n es = λ n. same_rest n d ds es h k2 (f n ∙ ap (λ y. entry_of n (y ∷ es)) (sym r)) in
    ap₂ (λ y ys. y ∷ ys) r (same_held ds es (rises_tail d.0 ds h) (rises_tail e.0 es k) g)

pub length_with : (e : Entry) (hs : Held) → length (with_entry e hs) ≡ length hs + 1
length_with e [] = refl
length_with e (f ∷ fs) =
    let d = cases_Bool (less e.0 f.0) in
    let r = length_with e fs in
    grind (arith, nat_tests)

pub spent_each : (hs : Held) → spent one_each hs ≡ length hs
spent_each [] = refl
spent_each (e ∷ es) = let r = spent_each es in omega arith

-- without a name that is not held
pub without_none : (n : Labels) (hs : Held) → entry_of n hs ≡ None → without_name n hs ≡ hs
without_none n [] h = refl
without_none n (e ∷ es) h =
    let s = cases_Bool (same_name n e.0) in
    let r = without_none n es in
    grind (arith, nat_tests)

-- the root is less than each other name, so it comes first or is not held
root_less : (n : Labels) → same_name [] n ≡ false → less [] n ≡ true
root_less [] h = absurd (false≢true (sym h))
root_less (l ∷ ls) h = ap is_lt (families.below_greater (l ∷ ls) [] (ap (λ n. below n []) (sym (append-nil (l ∷ ls))) ∙ below_join (l ∷ ls) [] (omega arith)))

pub first_by_root : (hs : Held) → rises hs ≡ true → first_entry hs ≡ cond (is_some (entry_of [] hs)) (entry_of [] hs) (entry_after [] hs)
first_by_root [] h = refl
first_by_root (e ∷ es) h =
    let s = cases_Bool (same_name [] e.0) in
    let r = root_less e.0 in
    let b = less_not_back [] e.0 in
    let z = none_before [] e.0 es h in
    grind (arith, nat_tests)
