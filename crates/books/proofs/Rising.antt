-- Lists of names that rise.
use Rattle.std.proofs.Common.{◌≡◌, true, false, [], ◌∷◌, ◌++◌, refl, ap, arith}
use Rattle.std.proofs.lemmas.Bool.{cases_Bool}
use Rattle.names.specs.Orders.{names_decide}
use Rattle.names.proofs.Ordered.{canonical_total}
use Rattle.names.specs.Canonical.{same_name}
use Rattle.names.specs.Wire.{Labels, is_labels}
use Rattle.books.specs.Held.{Entry, Held, less, rises_from, rises, entry_after, first_entry, from_name}

pub less_irreflexive : (a : Labels) → less a a ≡ false
less_irreflexive a = let i = canonical_total.itself a in grind arith

pub less_transitive : (a b c : Labels) → less a b ≡ true → less b c ≡ true → less a c ≡ true
less_transitive a b c h k = let t = canonical_total.transitive a b c in grind arith

pub less_apart : (a b : Labels) → less a b ≡ true → same_name b a ≡ false
less_apart a b h =
    let s = (names_decide b a).0 in
    let i = less_irreflexive a in
    let c = cases_Bool (same_name b a) in
    let e : b ≡ a → less a b ≡ less a a = λ p. ap (less a) p in
    grind arith

pub less_not_back : (a b : Labels) → less a b ≡ true → less b a ≡ false
less_not_back a b h = let t = less_transitive a b a in let i = less_irreflexive a in let c = cases_Bool (less b a) in grind arith

-- a name in a rising list is less than what follows, and greater than what stands before it
pub rises_tail : (n : Labels) (es : Held) → rises_from n es ≡ true → rises es ≡ true
rises_tail n [] h = refl
rises_tail n (e ∷ es) h = grind arith

pub rises_name : (n : Labels) (es : Held) → rises_from n es ≡ true → is_labels n ≡ true
rises_name n [] h = h
rises_name n (e ∷ es) h = grind arith

-- each name of the part behind is greater
before_all : (n : Labels) (ds : Held) (e : Entry) (es : Held) → rises_from n (ds ++ (e ∷ es)) ≡ true → less n e.0 ≡ true
before_all n [] e es h = grind arith
before_all n (d ∷ ds) e es h =
    let a : less n d.0 ≡ true = grind arith in
    let b = before_all d.0 ds e es (grind arith) in
    less_transitive n d.0 e.0 a b

rises_part : (ds es : Held) → rises (ds ++ es) ≡ true → rises es ≡ true
rises_part [] es h = h
rises_part (d ∷ ds) es h = rises_part ds es (rises_tail d.0 (ds ++ es) h)

pub part_name : (ds : Held) (e : Entry) (es : Held) → rises (ds ++ (e ∷ es)) ≡ true → is_labels e.0 ≡ true
part_name ds e es h = rises_name e.0 es (rises_part ds (e ∷ es) h)

-- the entry after an entry is the next one of the list
after_here : (e : Entry) (es : Held) → rises_from e.0 es ≡ true → entry_after e.0 es ≡ first_entry es
after_here e [] h = refl
after_here e (f ∷ fs) h = grind arith

pub after_entry : (ds : Held) (e : Entry) (es : Held) → rises (ds ++ (e ∷ es)) ≡ true → entry_after e.0 (ds ++ (e ∷ es)) ≡ first_entry es
after_entry [] e es h = let i = less_irreflexive e.0 in rw i (after_here e es h)
after_entry (d ∷ ds) e es h =
    let b = before_all d.0 ds e es h in
    let n = less_not_back d.0 e.0 b in
    rw n (after_entry ds e es (rises_tail d.0 (ds ++ (e ∷ es)) h))

-- the part of the list from an entry on
pub from_entry : (ds : Held) (e : Entry) (es : Held) → rises (ds ++ (e ∷ es)) ≡ true → from_name e.0 (ds ++ (e ∷ es)) ≡ e ∷ es
from_entry [] e es h = let s = (names_decide e.0 e.0).1 refl in rw s
from_entry (d ∷ ds) e es h =
    let b = before_all d.0 ds e es h in
    let n = less_apart d.0 e.0 b in
    rw n (from_entry ds e es (rises_tail d.0 (ds ++ (e ∷ es)) h))
