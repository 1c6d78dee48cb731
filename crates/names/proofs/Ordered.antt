-- Canonical order is a strict total order that keeps families together.
use Rattle.std.proofs.Common.{◌≡◌, ℕ, suc, ◌<◌, min, true, cond, ◌&&◌, eqb, ltb, List, [], ◌∷◌, ◌++◌, reverse, length, Ordering, Less, Equal, Greater, sym, refl, ap, ◌∙◌, ap₂, ⊎_elim, arith}
use mathlib.Core.List.{reverse-cons}
use Rattle.std.proofs.lemmas.List.{reverse-append, reverse-reverse, length-reverse, length-append}
use Rattle.std.proofs.lemmas.Bool.{false≢true, cases_Bool}
use Rattle.std.proofs.lemmas.Bool.Decides.{nat_tests}
use Rattle.std.specs.Cmp.Lexicographic.{slice_cmp, lists_total}
use Rattle.std.specs.Cmp.{IsTotalOrder, nat_cmp_total, tied_itself}
use Rattle.std.specs.Ordering.{nat_cmp, is_eq, ordering_reverse, ordering_then}
use Rattle.names.specs.Wire.{Octets, Labels, same_octets}
use Rattle.names.specs.Canonical.{by_octets, canonical, same_name, below, at_or_below, common, shared}
use Rattle.names.specs.Laws.{StrictTotal, Families}
use Rattle.names.specs.Orders.{octets_decide, octets_ties, names_decide, names_ties, same_reverse, canonical_total_by}

pub then_equal : (o : Ordering) → ordering_then o Equal ≡ o
then_equal Less = refl
then_equal Equal = refl
then_equal Greater = refl

pub then_assoc : (o p q : Ordering) → ordering_then (ordering_then o p) q ≡ ordering_then o (ordering_then p q)
then_assoc Less p q = refl
then_assoc Equal p q = refl
then_assoc Greater p q = refl

pub equal_alone : (o : Ordering) → is_eq o ≡ true → o ≡ Equal
equal_alone Less e = absurd (false≢true e)
equal_alone Equal e = refl
equal_alone Greater e = absurd (false≢true e)

-- an order as the library states its laws, in which only the same is equal
strict : {X : Type 0} (by : X → X → Ordering) → IsTotalOrder by → ((a b : X) → by a b ≡ Equal → a ≡ b) → StrictTotal by
strict by total same = record {
  itself = λ a. tied_itself total a;
  same = same;
  greater = λ a b e. total.antisymm b a ∙ ap ordering_reverse e;
  less = λ a b e. total.antisymm b a ∙ ap ordering_reverse e;
  transitive = total.trans;
}

pub numbers_total : StrictTotal nat_cmp
numbers_total = strict nat_cmp nat_cmp_total (λ a b e. grind (arith, nat_tests))

pub octets_total : StrictTotal by_octets
octets_total = strict by_octets (lists_total nat_cmp_total) (λ a b e. (octets_decide a b).0 (octets_ties a b ∙ ap is_eq e))

pub canonical_total : StrictTotal canonical
canonical_total = strict canonical (canonical_total_by (λ n. n)) (λ n m e. (names_decide n m).0 (names_ties n m ∙ ap is_eq e))

module _ {X : Type 0} (by : X → X → Ordering) (total : StrictTotal by) where
  lexical_itself : (a : List X) → slice_cmp by a a ≡ Equal
  lexical_itself [] = refl
  lexical_itself (x ∷ xs) = rw (total.itself x) (lexical_itself xs)

  -- where the heads' order is known
  lexical_same : (a b : List X) → slice_cmp by a b ≡ Equal → a ≡ b
  lexical_same [] [] h = refl
  lexical_same [] (y ∷ ys) h = absurd (let z : ◌≡◌ {A = ℕ} 0 1 = cc in omega arith)
  lexical_same (x ∷ xs) [] h = absurd (let z : ◌≡◌ {A = ℕ} 0 1 = cc in omega arith)
  lexical_same (x ∷ xs) (y ∷ ys) h =
      let ih = lexical_same xs ys in
      let e = total.same x y in
      grind arith

  lexical_greater : (a b : List X) → slice_cmp by a b ≡ Less → slice_cmp by b a ≡ Greater
  lexical_greater [] [] h = absurd (let z : ◌≡◌ {A = ℕ} 0 1 = cc in omega arith)
  lexical_greater [] (y ∷ ys) h = refl
  lexical_greater (x ∷ xs) [] h = absurd (let z : ◌≡◌ {A = ℕ} 0 1 = cc in omega arith)
  lexical_greater (x ∷ xs) (y ∷ ys) h =
      let ih = lexical_greater xs ys in
      let e = total.same x y in
      let i = total.itself x in
      let g = total.greater x y in
      grind arith

  lexical_less : (a b : List X) → slice_cmp by a b ≡ Greater → slice_cmp by b a ≡ Less
  lexical_less [] [] h = absurd (let z : ◌≡◌ {A = ℕ} 0 1 = cc in omega arith)
  lexical_less [] (y ∷ ys) h = absurd (let z : ◌≡◌ {A = ℕ} 0 1 = cc in omega arith)
  lexical_less (x ∷ xs) [] h = refl
  lexical_less (x ∷ xs) (y ∷ ys) h =
      let ih = lexical_less xs ys in
      let e = total.same x y in
      let i = total.itself x in
      let g = total.less x y in
      grind arith

  lexical_transitive : (a b c : List X) → slice_cmp by a b ≡ Less → slice_cmp by b c ≡ Less → slice_cmp by a c ≡ Less
  lexical_transitive [] [] c h k = absurd (let z : ◌≡◌ {A = ℕ} 0 1 = cc in omega arith)
  lexical_transitive [] (y ∷ ys) [] h k = absurd (let z : ◌≡◌ {A = ℕ} 0 1 = cc in omega arith)
  lexical_transitive [] (y ∷ ys) (z ∷ zs) h k = refl
  lexical_transitive (x ∷ xs) [] c h k = absurd (let z : ◌≡◌ {A = ℕ} 0 1 = cc in omega arith)
  lexical_transitive (x ∷ xs) (y ∷ ys) [] h k = absurd (let z : ◌≡◌ {A = ℕ} 0 1 = cc in omega arith)
  lexical_transitive (x ∷ xs) (y ∷ ys) (z ∷ zs) h k =
      let ih = lexical_transitive xs ys zs in
      let e = total.same x y in
      let f = total.same y z in
      let t = total.transitive x y z in
      grind arith

  pub lexical_total : StrictTotal (slice_cmp by)
  lexical_total = record {
    itself = lexical_itself;
    same = lexical_same;
    greater = lexical_greater;
    less = lexical_less;
    transitive = lexical_transitive;
  }

  -- what lies between a list and a longer one that begins with it begins with it too, and is longer
  pub prefix_between : (a b e : List X) → slice_cmp by a b ≡ Less → slice_cmp by b (a ++ e) ≡ Less → (f : List X) × (0 < length f) × (b ≡ a ++ f)
  prefix_between [] [] e h k = absurd (let z : ◌≡◌ {A = ℕ} 0 1 = cc in omega arith)
  prefix_between [] (y ∷ ys) e h k = (y ∷ ys, omega arith, refl)
  prefix_between (x ∷ xs) [] e h k = absurd (let z : ◌≡◌ {A = ℕ} 0 1 = cc in omega arith)
  prefix_between (x ∷ xs) (y ∷ ys) e h k =
      let g = total.greater x y in
      let i = total.itself y in
      let s : x ≡ y = let t = total.same x y in grind arith in
      let u : slice_cmp by xs ys ≡ Less = let j = total.itself x in grind arith in
      let v : slice_cmp by ys (xs ++ e) ≡ Less = let j = total.itself x in grind arith in
      let r = prefix_between xs ys e u v in
      (r.0, r.1, cc)

-- lists of which the fronts are equally long
pub append_cmp : {X : Type 0} (by : X → X → Ordering) (p q u v : List X) → length p ≡ length q → slice_cmp by (p ++ u) (q ++ v) ≡ ordering_then (slice_cmp by p q) (slice_cmp by u v)
append_cmp by [] [] u v h = refl
append_cmp by [] (y ∷ ys) u v h = absurd (omega arith)
append_cmp by (x ∷ xs) [] u v h = absurd (omega arith)
append_cmp by (x ∷ xs) (y ∷ ys) u v h = rw (append_cmp by xs ys u v (omega arith), then_assoc)

-- of two lists one of which is empty the lengths decide
pub lengths_cmp : {X : Type 0} (by : X → X → Ordering) (u v : List X) → min (length u) (length v) ≡ 0 → slice_cmp by u v ≡ nat_cmp (length u) (length v)
lengths_cmp by [] [] h = refl
lengths_cmp by [] (y ∷ ys) h = grind (arith, nat_tests)
lengths_cmp by (x ∷ xs) [] h = grind (arith, nat_tests)
lengths_cmp by (x ∷ xs) (y ∷ ys) h = absurd (omega arith)

-- names of which the first labels stand before equally many
pub canonical_cons : (x y : Octets) (xs ys : Labels) → length xs ≡ length ys → canonical (x ∷ xs) (y ∷ ys) ≡ ordering_then (canonical xs ys) (by_octets x y)
unfolding canonical
canonical_cons x y xs ys h =
    ap₂ (slice_cmp by_octets) (reverse-cons x xs) (reverse-cons y ys)
    ∙ append_cmp by_octets (reverse xs) (reverse ys) (x ∷ []) (y ∷ []) (omega (arith, length-reverse xs, length-reverse ys))
    ∙ ap (ordering_then (slice_cmp by_octets (reverse xs) (reverse ys))) (then_equal (by_octets x y))

pub canonical_append : (d e p q : Labels) → length p ≡ length q → min (length d) (length e) ≡ 0 → canonical (d ++ p) (e ++ q) ≡ ordering_then (canonical p q) (nat_cmp (length d) (length e))
unfolding canonical
canonical_append d e p q h k =
    ap₂ (slice_cmp by_octets) (reverse-append d p) (reverse-append e q)
    ∙ append_cmp by_octets (reverse p) (reverse q) (reverse d) (reverse e) (omega (arith, length-reverse p, length-reverse q))
    ∙ ap (ordering_then (slice_cmp by_octets (reverse p) (reverse q))) (lengths_cmp by_octets (reverse d) (reverse e) (rw (length-reverse d, length-reverse e) k) ∙ rw (length-reverse d, length-reverse e))

-- below says that labels stand before all of the ancestor's
pub below_split : (n m : Labels) → below n m ≡ true → (e : Labels) × (0 < length e) × (n ≡ e ++ m)
below_split [] m h = absurd (false≢true h)
below_split (l ∷ ls) m h =
    ⊎_elim
    (λ s. (l ∷ [], omega arith, ap (λ t. l ∷ t) ((names_decide ls m).0 s)))
    (λ s. let r = below_split ls m (let t = cases_Bool (below ls m) in grind arith) in (l ∷ r.0, omega arith, ap (λ t. l ∷ t) r.2))
    (cases_Bool (same_name ls m))

pub below_join : (e m : Labels) → 0 < length e → below (e ++ m) m ≡ true
below_join [] m h = absurd (omega arith)
below_join (l ∷ []) m h = let s = (names_decide m m).1 refl in grind arith
below_join (l ∷ (k ∷ ks)) m h = let ih = below_join (k ∷ ks) m (omega arith) in grind arith

between : (n p m : Labels) → below m n ≡ true → canonical n p ≡ Less → canonical p m ≡ Less → below p n ≡ true
unfolding canonical
between n p m h l k =
    let r = below_split m n h in
    let e : reverse m ≡ reverse n ++ reverse r.0 = ap reverse r.2 ∙ reverse-append r.0 n in
    let s = prefix_between by_octets octets_total (reverse n) (reverse p) (reverse r.0) l (rw e at k) in
    let q : p ≡ reverse s.0 ++ n = sym (reverse-reverse p) ∙ ap reverse s.2 ∙ reverse-append (reverse n) s.0 ∙ ap (λ t. reverse s.0 ++ t) (reverse-reverse n) in
    rw q (below_join (reverse s.0) n (rw length-reverse s.1))

pub families : Families
families = record {
  below_greater = λ n m h.
      let r = below_split n m h in
      let a : canonical ([] ++ m) (r.0 ++ m) ≡ ordering_then (canonical m m) (nat_cmp 0 (length r.0)) = canonical_append [] r.0 m m refl (omega arith) in
      let b = canonical_total.itself m in
      let c = r.1 in
      let d = r.2 in
      grind (arith, nat_tests);
  between_below = between;
}

-- the labels that two names share
common_append : (p q u v : Labels) → length p ≡ length q → min (length u) (length v) ≡ 0 → common (p ++ u) (q ++ v) ≡ common p q
common_append [] [] [] v h k = refl
common_append [] [] (x ∷ xs) [] h k = refl
common_append [] [] (x ∷ xs) (y ∷ ys) h k = absurd (omega arith)
common_append [] (y ∷ ys) u v h k = absurd (omega arith)
common_append (x ∷ xs) [] u v h k = absurd (omega arith)
common_append (x ∷ xs) (y ∷ ys) u v h k = rw (common_append xs ys u v (omega arith) k)

common_push : (p q : Labels) (x y : Octets) → length p ≡ length q → common (p ++ (x ∷ [])) (q ++ (y ∷ [])) ≡ cond (same_name p q) (cond (same_octets x y) (suc (length p)) (length p)) (common p q)
common_push [] [] x y h = refl
common_push [] (b ∷ bs) x y h = absurd (omega arith)
common_push (a ∷ cs) [] x y h = absurd (omega arith)
common_push (a ∷ cs) (b ∷ bs) x y h = let ih = common_push cs bs x y (omega arith) in grind arith

pub shared_cons : (x y : Octets) (xs ys : Labels) → length xs ≡ length ys → shared (x ∷ xs) (y ∷ ys) ≡ cond (same_name xs ys) (cond (same_octets x y) (suc (length xs)) (length xs)) (shared xs ys)
unfolding shared
shared_cons x y xs ys h =
    ap₂ common (reverse-cons x xs) (reverse-cons y ys)
    ∙ common_push (reverse xs) (reverse ys) x y (omega (arith, length-reverse xs, length-reverse ys))
    ∙ rw (same_reverse xs ys, length-reverse xs)

pub shared_append : (d e p q : Labels) → length p ≡ length q → min (length d) (length e) ≡ 0 → shared (d ++ p) (e ++ q) ≡ shared p q
unfolding shared
shared_append d e p q h k =
    ap₂ common (reverse-append d p) (reverse-append e q)
    ∙ common_append (reverse p) (reverse q) (reverse d) (reverse e) (omega (arith, length-reverse p, length-reverse q)) (rw (length-reverse d, length-reverse e) k)

-- a name shares all of an ancestor's labels
common_front : (m f : Labels) → common (m ++ f) m ≡ length m
common_front [] [] = refl
common_front [] (x ∷ xs) = refl
common_front (x ∷ xs) f = rw ((octets_decide x x).1 refl, common_front xs f)

front_common : (n m : Labels) → common n m ≡ length m → (f : Labels) × (n ≡ m ++ f)
front_common [] [] h = ([], refl)
front_common [] (y ∷ ys) h = absurd (omega arith)
front_common (x ∷ xs) [] h = (x ∷ xs, refl)
front_common (x ∷ xs) (y ∷ ys) h =
    ⊎_elim
    (λ t.
    let r = front_common xs ys (let c = common xs ys in grind arith) in
    let e = (octets_decide x y).0 t in
    (r.0, ap₂ (λ a b. a ∷ b) e r.1))
    (λ f. absurd (let z : ◌≡◌ {A = ℕ} 0 (suc (length ys)) = grind arith in omega arith))
    (cases_Bool (same_octets x y))

at_or_below_split : (n m : Labels) → at_or_below n m ≡ true → (e : Labels) × (n ≡ e ++ m)
at_or_below_split n m h =
    ⊎_elim
    (λ s. ([], (names_decide n m).0 s))
    (λ s. let r = below_split n m (let t = cases_Bool (below n m) in grind arith) in (r.0, r.2))
    (cases_Bool (same_name n m))

at_or_below_join : (e m : Labels) → at_or_below (e ++ m) m ≡ true
at_or_below_join [] m = let s = (names_decide m m).1 refl in grind arith
at_or_below_join (l ∷ ls) m = let s = below_join (l ∷ ls) m (omega arith) in let t = cases_Bool (same_name ((l ∷ ls) ++ m) m) in grind arith

shared_all : (e m : Labels) → shared (e ++ m) m ≡ length m
unfolding shared
shared_all e m = ap (λ t. common t (reverse m)) (reverse-append e m) ∙ common_front (reverse m) (reverse e) ∙ length-reverse m

all_shared : (n m : Labels) → shared n m ≡ length m → (e : Labels) × (n ≡ e ++ m)
unfolding shared
all_shared n m h =
    let r = front_common (reverse n) (reverse m) (h ∙ sym (length-reverse m)) in
    (reverse r.0, sym (reverse-reverse n) ∙ ap reverse r.1 ∙ reverse-append (reverse m) r.0 ∙ ap (λ t. reverse r.0 ++ t) (reverse-reverse m))

pub at_or_below_shared : (n m : Labels) → at_or_below n m ≡ eqb (shared n m) (length m)
at_or_below_shared n m =
    ⊎_elim
    (λ t. let r = at_or_below_split n m t in let s = shared_all r.0 m in let e = r.1 in grind (arith, nat_tests))
    (λ f. ⊎_elim
    (λ t. let r = all_shared n m (let u = t in grind (arith, nat_tests)) in let s = at_or_below_join r.0 m in let e = r.1 in grind arith)
    (λ g. f ∙ sym g)
    (cases_Bool (eqb (shared n m) (length m))))
    (cases_Bool (at_or_below n m))

-- a name is below another where it is at or below it and has more labels
pub below_longer : (n m : Labels) → below n m ≡ (at_or_below n m && ltb (length m) (length n))
below_longer n m =
    ⊎_elim
    (λ t.
    let r = below_split n m t in
    let l = ap length r.2 ∙ length-append r.0 m in
    let p = r.1 in
    let c = cases_Bool (same_name n m) in
    grind (arith, nat_tests))
    (λ f. ⊎_elim
    (λ s. let l = ap length ((names_decide n m).0 s) in grind (arith, nat_tests))
    (λ g. grind arith)
    (cases_Bool (same_name n m)))
    (cases_Bool (below n m))

pub shared_same : (n m : Labels) → same_name n m ≡ true → shared n m ≡ length n
shared_same n m h = rw ((names_decide n m).0 h) (shared_all [] m)
