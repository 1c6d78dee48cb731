-- The reader: what a wire form is, label by label.
use Rattle.std.proofs.Common.{◌≡◌, ℕ, zero, suc, ◌+◌, ◌<◌, ◌≤◌, true, false, cond, ◌&&◌, eqb, leb, [], ◌∷◌, ◌++◌, map, length, get_or, take, drop, Some, None, sym, refl, ap, ◌∙◌, add-one, arith}
use Rattle.std.proofs.lemmas.List.{length-append, length-map, length-take-le, take-append-drop}
use Rattle.std.proofs.lemmas.Bool.{cases_Bool, and_parts}
use Rattle.std.proofs.lemmas.Bool.Decides.{nat_tests}
use lib.Pointwise.{pointwise}
use Rattle.names.specs.Orders.{octets_decide}
use Rattle.names.specs.Types.{is_star}
use Rattle.names.specs.Wire.{Octets, Labels, lower, ends, is_name, split, labels_of, first_label, same_octets, star, after_label, after_labels, parent_of, lower_octets, are_labels}

-- the octets of a label may be passed over at once
pub ends_skip : (k : ℕ) (xs : Octets) → k ≤ length xs → ends k xs ≡ ends 0 (drop k xs)
ends_skip zero xs h = refl
ends_skip (suc k) [] h = absurd (omega arith)
ends_skip (suc k) (x ∷ xs) h = ends_skip k xs (omega arith)

pub ends_short : (k : ℕ) (xs : Octets) → length xs < k → ends k xs ≡ false
ends_short zero xs h = absurd (omega arith)
ends_short (suc k) [] h = refl
ends_short (suc k) (x ∷ xs) h = ends_short k xs (omega arith)

split_label : (k : ℕ) (xs : Octets) → k ≤ length xs → (split k xs).0 ≡ map lower (take k xs)
split_label zero [] h = refl
split_label zero (x ∷ xs) h = refl
split_label (suc k) [] h = absurd (omega arith)
split_label (suc k) (x ∷ xs) h = ap (λ l. lower x ∷ l) (split_label k xs (omega arith))

split_rest : (k : ℕ) (xs : Octets) → k ≤ length xs → (split k xs).1 ≡ (split 0 (drop k xs)).1
split_rest zero xs h = refl
split_rest (suc k) [] h = absurd (omega arith)
split_rest (suc k) (x ∷ xs) h = split_rest k xs (omega arith)

-- what the first label says of the whole
pub ends_first : (s l r : Octets) → first_label s ≡ Some (l, r) → ends 0 s ≡ ends 0 r
ends_first [] l r e = absurd (let z : ◌≡◌ {A = ℕ} 0 1 = cc in omega arith)
ends_first (x ∷ xs) l r e = let s = ends_skip x xs in grind (arith, nat_tests)

pub ends_none : (s : Octets) → first_label s ≡ None → ends 0 s ≡ same_octets s (0 ∷ [])
ends_none [] e = refl
ends_none (x ∷ []) e = let s = ends_short x [] in grind (arith, nat_tests)
ends_none (x ∷ (y ∷ ys)) e = let s = ends_short x (y ∷ ys) in grind (arith, nat_tests)

labels_split : (s l r : Octets) → first_label s ≡ Some (l, r) → (split 0 s).1 ≡ map lower l ∷ (split 0 r).1
labels_split [] l r e = absurd (let z : ◌≡◌ {A = ℕ} 0 1 = cc in omega arith)
labels_split (x ∷ xs) l r e =
    let a = split_label x xs in
    let b = split_rest x xs in
    grind (arith, nat_tests)

pub labels_first : (s l r : Octets) → first_label s ≡ Some (l, r) → labels_of s ≡ map lower l ∷ labels_of r
unfolding labels_of
labels_first s l r e = labels_split s l r e

pub labels_none : (s : Octets) → first_label s ≡ None → labels_of s ≡ []
unfolding labels_of
labels_none [] e = refl
labels_none (x ∷ xs) e = grind (arith, nat_tests)

-- the parts of a first label
pub first_parts : (s l r : Octets) → first_label s ≡ Some (l, r) → (s ≡ length l ∷ (l ++ r)) × (1 ≤ length l) × (length l ≤ 63)
first_parts [] l r e = absurd (let z : ◌≡◌ {A = ℕ} 0 1 = cc in omega arith)
first_parts (x ∷ xs) l r e =
    let a = length-take-le x xs in
    let b = take-append-drop x xs in
    (grind (arith, nat_tests), grind (arith, nat_tests), grind (arith, nat_tests))

pub name_first : (s l r : Octets) → first_label s ≡ Some (l, r) → is_name s ≡ true → is_name r ≡ true
unfolding is_name
name_first s l r e h =
    let a = ends_first s l r e in
    let b = (first_parts s l r e).0 in
    let c : length s ≡ suc (length l + length r) = ap length b ∙ ap suc (length-append l r) in
    grind (arith, nat_tests)

-- a name with no first label is the root
pub root_alone : (s : Octets) → first_label s ≡ None → is_name s ≡ true → s ≡ 0 ∷ []
unfolding is_name
root_alone s e h = (octets_decide s (0 ∷ [])).0 (sym (ends_none s e) ∙ (and_parts (leb (length s) 255) (ends 0 s) h).1)

split_short : (k : ℕ) (xs : Octets) → length (split k xs).1 ≤ length xs
split_short zero [] = omega arith
split_short (suc k) [] = omega arith
split_short zero (x ∷ xs) = let ih = split_short x xs in grind arith
split_short (suc k) (x ∷ xs) = let ih = split_short k xs in omega arith

-- a name has no more labels than octets
pub labels_short : (s : Octets) → length (labels_of s) ≤ length s
unfolding labels_of
labels_short s = split_short 0 s

-- what follows the first label is shorter
pub rest_shorter : (s l r : Octets) → first_label s ≡ Some (l, r) → length r < length s
rest_shorter s l r e =
    let p = (first_parts s l r e).0 in
    let c : length s ≡ suc (length l + length r) = ap length p ∙ ap suc (length-append l r) in
    omega arith

pub after_first : (s l r : Octets) → first_label s ≡ Some (l, r) → r ≡ after_label s
after_first [] l r e = absurd (let z : ◌≡◌ {A = ℕ} 0 1 = cc in omega arith)
after_first (x ∷ xs) l r e = grind (arith, nat_tests)

pub only_zero : (s : Octets) → same_octets s (0 ∷ []) ≡ (eqb (length s) 1 && eqb (get_or s 0 0) 0)
only_zero [] = refl
only_zero (x ∷ []) = grind (arith, nat_tests)
only_zero (x ∷ (y ∷ ys)) = grind (arith, nat_tests)

-- up from an ancestor
pub up_once : (k : ℕ) (n m : Labels) → Some m ≡ parent_of (drop k n) → m ≡ drop (k + 1) n
up_once zero [] m e = absurd (let z : ◌≡◌ {A = ℕ} 0 1 = cc in omega arith)
up_once (suc k) [] m e = absurd (let z : ◌≡◌ {A = ℕ} 0 1 = cc in omega arith)
up_once zero (l ∷ ls) m e = cc
up_once (suc k) (l ∷ ls) m e = up_once k ls m e ∙ ap (λ j. drop j ls) (add-one k) ∙ sym (ap (λ j. drop j (l ∷ ls)) (add-one (suc k)))

pub no_way_up : (k : ℕ) (n : Labels) → None ≡ parent_of (drop k n) → length n ≤ k
no_way_up zero [] e = omega arith
no_way_up zero (l ∷ ls) e = absurd (let z : ◌≡◌ {A = ℕ} 0 1 = cc in omega arith)
no_way_up (suc k) [] e = omega arith
no_way_up (suc k) (l ∷ ls) e = let ih = no_way_up k ls e in omega arith

pub after_more : (k : ℕ) (s : Octets) → after_label (after_labels k s) ≡ after_labels (k + 1) s
after_more zero s = refl
after_more (suc k) s = after_more k (after_label s) ∙ ap (λ j. after_labels j (after_label s)) (add-one k) ∙ sym (ap (λ j. after_labels j s) (add-one (suc k)))

pub some_same : {X : Type 0} (x y : X) → Some x ≡ Some y → x ≡ y
some_same x y e = cc

pub star_label : (l : Octets) → is_star (map lower l) ≡ pointwise eqb l star
star_label [] = refl
star_label (x ∷ []) = grind (arith, nat_tests)
star_label (x ∷ (y ∷ ys)) = grind (arith, nat_tests)

-- lower case
pub lower_lower : (x : ℕ) → lower (lower x) ≡ lower x
lower_lower x = grind (arith, nat_tests)

pub lower_octets_map : (l : Octets) → lower_octets (map lower l) ≡ true
lower_octets_map [] = refl
lower_octets_map (x ∷ xs) = let ih = lower_octets_map xs in let e = lower_lower x in grind (arith, nat_tests)

split_whole : (k : ℕ) (xs : Octets) → are_labels (split k xs).1 ≡ true
split_whole zero [] = refl
split_whole (suc k) [] = refl
split_whole zero (x ∷ xs) =
    let ih = split_whole x xs in
    let s = split_label x xs in
    let n = length-map (take x xs) lower in
    let m = length-take-le x xs in
    let o = lower_octets_map (take x xs) in
    grind (arith, nat_tests)
split_whole (suc k) (x ∷ xs) = split_whole k xs

-- the labels that stand at the front of octets are labels
pub labels_whole : (s : Octets) → are_labels (labels_of s) ≡ true
unfolding labels_of
labels_whole s = split_whole 0 s

-- octets that came back from the reader are the name that was given to it
pub was_read : (s u : Octets) → Some u ≡ cond (is_name s) (Some s) None → (is_name s ≡ true) × (u ≡ s)
was_read s u e =
    let k : is_name s ≡ true = (let c = cases_Bool (is_name s) in grind (arith, nat_tests)) in
    (k, some_same u s (rw k at e))
