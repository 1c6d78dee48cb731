-- What a binary search for a name finds in entries that rise.
use Rattle.std.proofs.Common.{◌≡◌, ℕ, zero, suc, ◌<◌, ◌≤◌, true, false, not, List, [], ◌∷◌, length, get_or, is_some, Ok, Err, Result, Ordering, Less, Equal, Greater, sym, refl, ap, ◌∙◌, ⊎_elim, arith}
use Rattle.std.proofs.lemmas.Bool.{cases_Bool, cases_eq}
use Rattle.std.proofs.lemmas.Option.{slice_get_past}
use Rattle.std.specs.List.{AllWithin, slice_get}
use Rattle.std.specs.List.Sorted.{IsBinarySearchResult, IsSearchInRange, IsPartitionedBy, IsPartitionPoint}
use Rattle.std.specs.Ordering.{is_lt, is_le, ordering_index}
use Rattle.names.specs.Orders.{names_decide}
use Rattle.names.proofs.Ordered.{canonical_total}
use Rattle.names.specs.Canonical.{canonical, same_name}
use Rattle.names.specs.Wire.{Labels}
use Rattle.books.proofs.Rising.{less_irreflexive, less_transitive, less_apart, rises_tail}
use Rattle.books.specs.Held.{less, rises_from, rises, entry_of, entry_after}
use Rattle.books.specs.Stored.{entry_in}
use Rattle.books.specs.declared.named.Named.{Named}
use Rattle.table.specs.Ranks.{entries_in, rank, standing}

abbrev name_at : List Named → ℕ → Named → Labels
name_at es i d = (entry_in (get_or es i d)).0

-- each name is less than those behind it
later : (n : Labels) (es : List Named) (d : Named) (i : ℕ) → rises_from n (entries_in es) ≡ true → i < length es → less n (name_at es i d) ≡ true
later n [] d i h l = absurd (omega arith)
later n (e ∷ es) d zero h l = grind arith
later n (e ∷ es) d (suc i) h l = less_transitive n (entry_in e).0 (name_at es i d) (grind arith) (later (entry_in e).0 es d i (grind arith) (omega arith))

ahead : (es : List Named) (d : Named) (i j : ℕ) → rises (entries_in es) ≡ true → i < j → j < length es → less (name_at es i d) (name_at es j d) ≡ true
ahead [] d i j h k l = absurd (omega arith)
ahead (e ∷ es) d i zero h k l = absurd (omega arith)
ahead (e ∷ es) d zero (suc j) h k l = later (entry_in e).0 es d j h (omega arith)
ahead (e ∷ es) d (suc i) (suc j) h k l = ahead es d i j (rises_tail (entry_in e).0 (entries_in es) h) (omega arith) (omega arith)

-- comparing with what stands further behind gives no less
no_less_by : (a b n : Labels) (o : Ordering) → canonical b n ≡ o → less a b ≡ true → ordering_index (canonical a n) ≤ ordering_index o
no_less_by a b n Less e h = let t = canonical_total.transitive a b n in grind arith
no_less_by a b n Equal e h = let s = canonical_total.same b n e in let q : canonical a b ≡ canonical a n = ap (canonical a) s in grind arith
no_less_by a b n Greater e h = at_most (canonical a n)
  where
    at_most : (o : Ordering) → ordering_index o ≤ 2
    at_most Less = omega arith
    at_most Equal = omega arith
    at_most Greater = omega arith

compared : (n : Labels) (es : List Named) → rises (entries_in es) ≡ true → (i j : ℕ) (d : Named) → i ≤ j → j < length es → ordering_index (canonical (name_at es i d) n) ≤ ordering_index (canonical (name_at es j d) n)
compared n es h i j d l k =
    ⊎_elim
    (λ e. let q = ap (λ y. ordering_index (canonical (name_at es y d) n)) e in omega arith)
    (λ u. no_less_by (name_at es i d) (name_at es j d) n (canonical (name_at es j d) n) refl (ahead es d i j h (omega arith) k))
    (cases_eq i j)

-- a name whose entry was found
record HeldAt (n : Labels) (es : List Named) (i : ℕ) : Type 0 where
  held : is_some (entry_of n (entries_in es)) ≡ true
  place : rank n (entries_in es) ≡ i

held_at : (n : Labels) (es : List Named) (d : Named) (i : ℕ) → rises (entries_in es) ≡ true → i < length es → canonical (name_at es i d) n ≡ Equal → HeldAt n es i
held_at n [] d i h l q = absurd (omega arith)
held_at n (e ∷ es) d zero h l q =
    let s = canonical_total.same (entry_in e).0 n q in
    let t : same_name n (entry_in e).0 ≡ true = ap (same_name n) s ∙ ((names_decide n n).1 refl) in
    record { held = rw t refl; place = rw (ap is_lt q) refl }
held_at n (e ∷ es) d (suc i) h l q =
    let r = held_at n es d i (rises_tail (entry_in e).0 (entries_in es) h) (omega arith) q in
    let s = canonical_total.same (name_at es i d) n q in
    let b : less (entry_in e).0 n ≡ true = ap (less (entry_in e).0) (sym s) ∙ later (entry_in e).0 es d i h (omega arith) in
    let c = less_apart (entry_in e).0 n b in
    record { held = rw c r.held; place = rw b (ap suc r.place) }

-- a name that would stand between those that are less and those that are greater
record FreeAt (n : Labels) (es : List Named) (i : ℕ) : Type 0 where
  none : is_some (entry_of n (entries_in es)) ≡ false
  place : rank n (entries_in es) ≡ i

other : (n m : Labels) (o : Ordering) → canonical m n ≡ o → (o ≡ Equal → ⊥) → same_name n m ≡ false
other n m o e k = let c = cases_Bool (same_name n m) in let s = (names_decide n m).0 in let r : n ≡ m → canonical m n ≡ Equal = λ z. ap (canonical m) z ∙ canonical_total.itself m in grind arith

free_at : (n : Labels) (es : List Named) (i : ℕ) → i ≤ length es → AllWithin (λ e. canonical (entry_in e).0 n ≡ Less) es 0 i → AllWithin (λ e. canonical (entry_in e).0 n ≡ Greater) es i (length es) → FreeAt n es i
free_at n [] i l b a = record { none = refl; place = omega arith }
free_at n (e ∷ es) zero l b a =
    let g : canonical (entry_in e).0 n ≡ Greater = a 0 e (omega arith) (omega arith) in
    let r = free_at n es 0 (omega arith) (λ k d p q. absurd (omega arith)) (λ k d p q. a (suc k) d (omega arith) (omega arith)) in
    let o = other n (entry_in e).0 Greater g (λ z. cc) in
    record { none = rw o r.none; place = rw (ap is_lt g) refl }
free_at n (e ∷ es) (suc i) l b a =
    let g : canonical (entry_in e).0 n ≡ Less = b 0 e (omega arith) (omega arith) in
    let r = free_at n es i (omega arith) (λ k d p q. b (suc k) d (omega arith) (omega arith)) (λ k d p q. a (suc k) d (omega arith) (omega arith)) in
    let o = other n (entry_in e).0 Less g (λ z. cc) in
    record { none = rw o r.none; place = rw (ap is_lt g) (ap suc r.place) }

pub searched : (n : Labels) (es : List Named) (r : Result ℕ ℕ) → rises (entries_in es) ≡ true → IsSearchInRange r (length es) → IsBinarySearchResult (λ e. canonical (entry_in e).0 n) es r → r ≡ standing n (entries_in es)
searched n [] (Ok i) h l f = absurd (omega arith)
searched n (e ∷ es) (Ok i) h l f = let p = held_at n (e ∷ es) e i h l (f e) in rw p.held (ap Ok (sym p.place))
searched n es (Err i) h l f = let u = f (compared n es h) in let p = free_at n es i l u.0 u.1 in rw p.none (ap Err (sym p.place))

-- a name is less than another exactly where that one does not come before it or at it
turned_by : (n m : Labels) (o : Ordering) → canonical m n ≡ o → less n m ≡ not (is_le o)
turned_by n m Less e = let g = canonical_total.greater m n e in grind arith
turned_by n m Equal e = let s = canonical_total.same m n e in ap (less n) s ∙ less_irreflexive n
turned_by n m Greater e = ap is_lt (canonical_total.less m n e)

turned : (n m : Labels) → less n m ≡ not (is_le (canonical m n))
turned n m = turned_by n m (canonical m n) refl

pub partitioned : (n : Labels) (es : List Named) → rises (entries_in es) ≡ true → IsPartitionedBy (λ e. is_le (canonical (entry_in e).0 n)) es
partitioned n es h i j d l k t =
    ⊎_elim
    (λ e. ap (λ y. is_le (canonical (name_at es y d) n)) e ∙ t)
    (λ u.
    let a = ahead es d i j h (omega arith) k in
    let b = less_transitive n (name_at es i d) (name_at es j d) in
    let p = turned n (name_at es i d) in
    let q = turned n (name_at es j d) in
    let c = cases_Bool (is_le (canonical (name_at es i d) n)) in
    grind arith)
    (cases_eq i j)

-- the entry after a name stands behind those that are not greater
pub after_at : (n : Labels) (es : List Named) (i : ℕ) → i ≤ length es → IsPartitionPoint (λ e. is_le (canonical (entry_in e).0 n) ≡ true) (λ e. is_le (canonical (entry_in e).0 n) ≡ false) es i → entry_after n (entries_in es) ≡ slice_get (entries_in es) i
after_at n [] i l p = sym (slice_get_past [] i (omega arith))
after_at n (e ∷ es) zero l p =
    let b : less n (entry_in e).0 ≡ true = turned n (entry_in e).0 ∙ ap not (p.1 0 e (omega arith) (omega arith)) in
    rw b refl
after_at n (e ∷ es) (suc i) l p =
    let b : less n (entry_in e).0 ≡ false = turned n (entry_in e).0 ∙ ap not (p.0 0 e (omega arith) (omega arith)) in
    let r = after_at n es i (omega arith) (λ k d a b. p.0 (suc k) d (omega arith) (omega arith), λ k d a b. p.1 (suc k) d (omega arith) (omega arith)) in
    rw b r
