-- Turns of the loops that compare names.
use Rattle.std.proofs.Common.{◌≡◌, ℕ, nat_cmp, ◌+◌, ◌-◌, ◌≤◌, min, true, false, cond, ◌⊎◌, [], ◌∷◌, length, take, drop, Ordering, Equal, sym, ap, ◌∙◌, ap₂, ⊎_elim, arith}
use Rattle.std.proofs.lemmas.List.{nil_from_length, length-take-le, length-drop, take-append-drop}
use Rattle.std.proofs.lemmas.Bool.{cases_Bool}
use Rattle.std.proofs.lemmas.Bool.Decides.{nat_tests}
use Rattle.names.specs.Wire.{Octets, Labels, same_octets}
use Rattle.std.specs.Ordering.{is_eq, ordering_then}
use Rattle.names.specs.Canonical.{by_octets, canonical, same_name, shared}
use Rattle.names.specs.Orders.{octets_ties}
use Rattle.names.proofs.Ordered.{canonical_total, canonical_cons, canonical_append, shared_cons, shared_append, shared_same, then_equal, then_assoc, equal_alone}

-- How far two names n and m of equally many labels are compared: p and q are left of them, k labels since the last
-- two that differ were the same, and these two said o.
pub record Met (n m p q : Labels) (k : ℕ) (o : Ordering) : Type 0 where
  pub level : length p ≡ length q
  pub fewer : k + length p ≤ length n
  pub shares : shared n m ≡ cond (same_name p q) (k + length p) (shared p q)
  pub orders : canonical n m ≡ ordering_then (canonical p q) o

pub met_start : (n m : Labels) → length n ≡ length m → Met n m n m 0 Equal
met_start n m h = record {
  level = h;
  fewer = omega arith;
  shares = let c = cases_Bool (same_name n m) in let s = shared_same n m in grind arith;
  orders = sym (then_equal (canonical n m));
}

pub met_same : (n m p q xs ys : Labels) (x y : Octets) (k : ℕ) (o : Ordering) → Met n m p q k o → p ≡ x ∷ xs → q ≡ y ∷ ys → by_octets x y ≡ Equal → Met n m xs ys (k + 1) o
met_same n m p q xs ys x y k o h e f s =
    let u = ap length e in
    let v = ap length f in
    let l : length xs ≡ length ys = let w = h.level in omega arith in
    let t : same_octets x y ≡ true = octets_ties x y ∙ ap is_eq s in
    record {
      level = l;
      fewer = let w = h.fewer in omega arith;
      shares = let a = h.shares in let b = shared_cons x y xs ys l in grind (arith, nat_tests);
      orders = let a = h.orders in let b = canonical_cons x y xs ys l in let d = then_assoc (canonical xs ys) (by_octets x y) o in grind arith;
    }

pub met_other : (n m p q xs ys : Labels) (x y : Octets) (k : ℕ) (o r : Ordering) → Met n m p q k o → p ≡ x ∷ xs → q ≡ y ∷ ys → r ≡ by_octets x y → (r ≡ Equal → ⊥) → Met n m xs ys 0 r
met_other n m p q xs ys x y k o r h e f s g =
    let u = ap length e in
    let v = ap length f in
    let l : length xs ≡ length ys = let w = h.level in omega arith in
    let t : same_octets x y ≡ false = ⊎_elim (λ d. absurd (g (s ∙ equal_alone _ (sym (octets_ties x y) ∙ d)))) (λ d. d) (cases_Bool (same_octets x y)) in
    record {
      level = l;
      fewer = let w = h.fewer in omega arith;
      shares = let a = h.shares in let b = shared_cons x y xs ys l in grind (arith, nat_tests);
      orders = let a = h.orders in let b = canonical_cons x y xs ys l in let d = then_assoc (canonical xs ys) (by_octets x y) o in grind arith;
    }

pub met_end : (n m p q : Labels) (k : ℕ) (o : Ordering) → Met n m p q k o → (p ≡ []) ⊎ (q ≡ []) → (k ≡ shared n m) × (o ≡ canonical n m)
met_end n m p q k o h e =
    let l = h.level in
    let f : p ≡ [] = ⊎_elim (λ u. u) (λ u. nil_from_length p (l ∙ ap length u)) e in
    let g : q ≡ [] = nil_from_length q (sym l ∙ ap length f) in
    let a = h.shares in
    let b = h.orders in
    let d = canonical_total.itself [] in
    (grind arith, grind arith)

-- two names, and what is left of each at the label count of the shorter
pub record Level (n m p q : Labels) : Type 0 where
  pub even : length p ≡ length q
  pub shares : shared n m ≡ shared p q
  pub orders : canonical n m ≡ ordering_then (canonical p q) (nat_cmp (length n) (length m))

by_differences : (i j x y : ℕ) → i ≤ x → j ≤ y → x + j ≡ y + i → nat_cmp i j ≡ nat_cmp x y
by_differences i j x y h k s = grind (arith, nat_tests)

level_parts : (n m : Labels) (i j : ℕ) → i ≤ length n → j ≤ length m → length n + j ≡ length m + i → min i j ≡ 0 → Level n m (drop i n) (drop j m)
level_parts n m i j h k s z =
    let a = length-take-le i n h in
    let b = length-take-le j m k in
    let u = take-append-drop i n in
    let v = take-append-drop j m in
    let e : length (drop i n) ≡ length (drop j m) = omega (arith, length-drop i n, length-drop j m) in
    let f : min (length (take i n)) (length (take j m)) ≡ 0 = rw (a, b) z in
    record {
      even = e;
      shares = ap₂ shared (sym u) (sym v) ∙ shared_append (take i n) (take j m) (drop i n) (drop j m) e f;
      orders =
          ap₂ canonical (sym u) (sym v) ∙ canonical_append (take i n) (take j m) (drop i n) (drop j m) e f
          ∙ ap (ordering_then (canonical (drop i n) (drop j m))) (ap₂ nat_cmp a b ∙ by_differences i j (length n) (length m) h k s);
    }

pub level_names : (n m p q : Labels) (x y k : ℕ) → x ≡ length n → y ≡ length m → k ≡ min x y → p ≡ drop (x - k) n → q ≡ drop (y - k) m → Level n m p q
level_names n m p q x y k a b e f g =
    let l = level_parts n m (x - k) (y - k) (omega arith) (omega arith) (omega arith) (omega arith) in
    record { even = rw (f, g) l.even; shares = rw (f, g) l.shares; orders = rw (f, g) l.orders }
