-- A rising list once an entry is put in or taken out.
use Rattle.std.proofs.Common.{◌≡◌, true, false, cond, [], ◌∷◌, Some, None, Ordering, Less, Equal, Greater, sym, refl, ap, ◌∙◌, arith}
use Rattle.std.proofs.lemmas.Bool.{false≢true, cases_Bool}
use Rattle.std.proofs.lemmas.Bool.Decides.{nat_tests}
use Rattle.std.specs.Ordering.{is_eq, is_lt}
use Rattle.names.specs.Orders.{names_decide, names_ties}
use Rattle.names.proofs.Ordered.{canonical_total}
use Rattle.names.specs.Canonical.{canonical, same_name}
use Rattle.names.specs.Wire.{Labels, is_labels}
use Rattle.books.proofs.Rising.{less_irreflexive, less_transitive, rises_tail}
use Rattle.books.specs.Held.{Entry, Held, less, rises_from, rises, entry_of, with_entry, without_name}

by_case : (a b : Labels) (o : Ordering) → canonical a b ≡ o → is_lt o ≡ false → (canonical a b ≡ Equal → less b a ≡ true) → (canonical a b ≡ Greater → canonical b a ≡ Less) → less b a ≡ true
by_case a b Less e h k g = absurd (false≢true (sym h))
by_case a b Equal e h k g = k e
by_case a b Greater e h k g = ap is_lt (g e)

-- of two names that differ, one is less
pub less_other : (a b : Labels) → less a b ≡ false → same_name a b ≡ false → less b a ≡ true
less_other a b h k =
    let t = canonical_total.less a b in
    let e = names_ties a b in
    by_case a b (canonical a b) refl h (λ q. absurd (false≢true (sym k ∙ e ∙ ap is_eq q))) t

-- a name that is not greater than what stands before a list is not in the list
pub none_before : (m n : Labels) (hs : Held) → rises_from n hs ≡ true → less n m ≡ false → entry_of m hs ≡ None
none_before m n [] h k = refl
none_before m n (e ∷ es) h k =
    let t = less_transitive n e.0 m in
    let s = (names_decide m e.0).0 in
    let c = cases_Bool (same_name m e.0) in
    let d = cases_Bool (less e.0 m) in
    let q : m ≡ e.0 → less n m ≡ less n e.0 = λ p. ap (less n) p in
    let r : less e.0 m ≡ false → entry_of m es ≡ None = none_before m e.0 es (grind arith) in
    grind (arith, nat_tests)

-- the list with an entry more rises
with_from : (n : Labels) (e : Entry) (hs : Held) → rises_from n hs ≡ true → less n e.0 ≡ true → is_labels e.0 ≡ true → entry_of e.0 hs ≡ None → rises_from n (with_entry e hs) ≡ true
with_from n e [] h l i k = grind (arith, nat_tests)
with_from n e (f ∷ fs) h l i k =
    let s = cases_Bool (same_name e.0 f.0) in
    let d = cases_Bool (less e.0 f.0) in
    let o = less_other e.0 f.0 in
    let r = with_from f.0 e fs in
    grind (arith, nat_tests)

pub rises_with : (e : Entry) (hs : Held) → rises hs ≡ true → is_labels e.0 ≡ true → entry_of e.0 hs ≡ None → rises (with_entry e hs) ≡ true
rises_with e [] h i k = i
rises_with e (f ∷ fs) h i k =
    let s = cases_Bool (same_name e.0 f.0) in
    let d = cases_Bool (less e.0 f.0) in
    let o = less_other e.0 f.0 in
    let r = with_from f.0 e fs in
    grind (arith, nat_tests)

-- the list without a name rises
skip_from : (n m : Labels) (hs : Held) → is_labels n ≡ true → less n m ≡ true → rises_from m hs ≡ true → rises_from n hs ≡ true
skip_from n m [] i l h = i
skip_from n m (e ∷ es) i l h = let t = less_transitive n m e.0 in grind (arith, nat_tests)

without_from : (n m : Labels) (hs : Held) → rises_from n hs ≡ true → rises_from n (without_name m hs) ≡ true
without_from n m [] h = h
without_from n m (e ∷ es) h =
    let s = cases_Bool (same_name m e.0) in
    let k = skip_from n e.0 es in
    let r = without_from e.0 m es in
    grind (arith, nat_tests)

pub rises_without : (m : Labels) (hs : Held) → rises hs ≡ true → rises (without_name m hs) ≡ true
rises_without m [] h = refl
rises_without m (e ∷ es) h =
    let s = cases_Bool (same_name m e.0) in
    let t = rises_tail e.0 es in
    let r = without_from e.0 m es in
    grind (arith, nat_tests)

-- the entry of a name once an entry is put in, or a name taken out
pub entry_with : (n : Labels) (e : Entry) (hs : Held) → entry_of e.0 hs ≡ None → entry_of n (with_entry e hs) ≡ cond (same_name n e.0) (Some e) (entry_of n hs)
entry_with n e [] k = refl
entry_with n e (f ∷ fs) k =
    let s = cases_Bool (same_name e.0 f.0) in
    let d = cases_Bool (less e.0 f.0) in
    let u = cases_Bool (same_name n e.0) in
    let v = cases_Bool (same_name n f.0) in
    let p = (names_decide n e.0).0 in
    let r = entry_with n e fs in
    let q : n ≡ e.0 → same_name e.0 f.0 ≡ same_name n f.0 = λ z. ap (λ y. same_name y f.0) (sym z) in
    grind (arith, nat_tests)

pub entry_without : (n m : Labels) (hs : Held) → rises hs ≡ true → entry_of n (without_name m hs) ≡ cond (same_name n m) None (entry_of n hs)
entry_without n m [] h = let u = cases_Bool (same_name n m) in grind (arith, nat_tests)
entry_without n m (e ∷ es) h =
    let s = cases_Bool (same_name m e.0) in
    let u = cases_Bool (same_name n m) in
    let v = cases_Bool (same_name n e.0) in
    let p = (names_decide n m).0 in
    let p2 = (names_decide m e.0).0 in
    let r = entry_without n m es (rises_tail e.0 es h) in
    let b : less e.0 n ≡ false → entry_of n es ≡ None = none_before n e.0 es h in
    let i = less_irreflexive e.0 in
    let q : n ≡ m → same_name m e.0 ≡ same_name n e.0 = λ z. ap (λ y. same_name y e.0) (sym z) in
    let q2 : n ≡ m → m ≡ e.0 → less e.0 n ≡ false = λ z y. ap (less e.0) (z ∙ y) ∙ i in
    let q3 : m ≡ e.0 → same_name n m ≡ same_name n e.0 = λ y. ap (same_name n) y in
    grind (arith, nat_tests)
