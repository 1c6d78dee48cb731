-- Names from the root on: an order that keeps families.
use Rattle.std.specs.Prelude.{◌≡◌, ℕ, ◌+◌, ◌-◌, ◌<◌, ◌≤◌, Bool, true, false, [], ◌∷◌, ◌++◌, map, reverse, length, take, drop, Some, None, ◌==◌, eqb, nat_le, refl}
use Rattle.std.specs.declared.cmp.Ordering.TheVariants.{Less}
use Rattle.std.proofs.Common.{sym, ap, ap₂, ◌∙◌, ⊎_elim, add-one, arith}
use mathlib.Core.List.{reverse-cons}
use borrow.Rule.Slice.PartMut.{put_mid}
use Rattle.std.proofs.lemmas.Slice.Eq.{starts_is}
use Rattle.std.proofs.lemmas.List.{append-nil, append_assoc, reverse-append, reverse-reverse, length-append, length-drop, length-map, length-take-le, drop-drop, take_at, drop_at}
use Rattle.std.proofs.lemmas.Bool.{false≢true, cases_Bool, le-leb}
use Rattle.std.proofs.lemmas.Bool.Decides.{nat_tests, Decides-eqb}
use Rattle.std.specs.Cmp.Lexicographic.{pointwise}
use Rattle.std.specs.Char.{to_ascii_lowercase as ascii_lower}
use Rattle.std.specs.Ordering.{nat_cmp}
use Rattle.names.proofs.Ordered.{numbers_total, prefix_between, below_split, below_join}
use Rattle.names.proofs.Slices.{ascii_lower_all}
use Rattle.names.proofs.Reader.{first_parts, name_first, labels_first, labels_none}
use Rattle.names.proofs.Undo.{name_wire, name_short, wire_labels}
use Rattle.names.specs.Canonical.{by_octets, below}
use Rattle.names.specs.Wire.{Octets, Labels, is_name, is_labels, labels_of, first_label, lower, wire, written}
use Rattle.orders.specs.Ring.{Family}
use Rattle.orders_tests.specs.Reversal.{pieces, from_root, goes_on}

pub pieces_append : (a b : Labels) → pieces (a ++ b) ≡ pieces a ++ pieces b
pieces_append [] b = refl
pieces_append (l ∷ ls) b = ap (λ t. length l ∷ t) (ap (λ t. l ++ t) (pieces_append ls b) ∙ sym (append_assoc l (pieces ls) (pieces b)))

-- a label more stands behind
pub from_root_cons : (l : Octets) (ls : Labels) → from_root (l ∷ ls) ≡ from_root ls ++ (length l ∷ l)
from_root_cons l ls = ap pieces (reverse-cons l ls) ∙ pieces_append (reverse ls) (l ∷ []) ∙ ap (λ t. from_root ls ++ (length l ∷ t)) (append-nil l)

-- the wire form has one octet more
pub from_root_length : (n : Labels) → length (wire n) ≡ length (from_root n) + 1
from_root_length [] = refl
from_root_length (l ∷ ls) =
    let ih = from_root_length ls in
    let a = length-append l (wire ls) in
    let b = ap length (from_root_cons l ls) ∙ length-append (from_root ls) (length l ∷ l) in
    omega arith

pub from_root_place : (n : Labels) → is_labels n ≡ true → nat_le (length (from_root n)) 254 ≡ true
from_root_place n h =
    let e = from_root_length n in
    let s = name_short (wire n) (name_wire n h) in
    le-leb (length (from_root n)) 254 (omega arith)

pub few_octets : (p : Octets) → nat_le (length p) 254 ≡ true → length p ≤ 255
few_octets p h = grind (arith, nat_tests)

one_more : (k l : Octets) (ks ls : Labels) (f : Octets) → k ≡ l → (g : Labels) × (ks ≡ ls ++ g) × (f ≡ pieces g) → (g : Labels) × (k ∷ ks ≡ l ∷ (ls ++ g)) × (f ≡ pieces g)
one_more k l ks ls f s r = (r.0, ap₂ (λ a b. a ∷ b) s r.1, r.2)

-- where one string of pieces begins with another, the labels do too
front_pieces : (ns ms : Labels) (f : Octets) → pieces ms ≡ pieces ns ++ f → (g : Labels) × (ms ≡ ns ++ g) × (f ≡ pieces g)
front_pieces [] ms f e = (ms, refl, sym e)
front_pieces (l ∷ ls) [] f e = absurd (let z : ◌≡◌ {A = ℕ} 0 1 = cc in omega arith)
front_pieces (l ∷ ls) (k ∷ ks) f e =
    let i : length k ≡ length l = cc in
    let j : k ++ pieces ks ≡ l ++ (pieces ls ++ f) = (let z : k ++ pieces ks ≡ l ++ pieces ls ++ f = cc in z ∙ append_assoc l (pieces ls) f) in
    let s : k ≡ l = sym (take_at k (pieces ks) (length k) refl) ∙ ap (take (length k)) j ∙ take_at l (pieces ls ++ f) (length k) (sym i) in
    let t : pieces ks ≡ pieces ls ++ f = sym (drop_at k (pieces ks) (length k) refl) ∙ ap (drop (length k)) j ∙ drop_at l (pieces ls ++ f) (length k) (sym i) in
    one_more k l ks ls f s (front_pieces ls ks f t)

-- a name of which the place goes on after another's is below it
behind : (n m : Labels) (f : Octets) → from_root n ≡ from_root m ++ f → (e : Labels) × (n ≡ e ++ m) × (f ≡ pieces (reverse e))
behind n m f h =
    let r = front_pieces (reverse m) (reverse n) f h in
    (reverse r.0, sym (reverse-reverse n) ∙ ap reverse r.1 ∙ reverse-append (reverse m) r.0 ∙ ap (λ t. reverse r.0 ++ t) (reverse-reverse m), r.2 ∙ ap pieces (sym (reverse-reverse r.0)))

pieces_some : (e : Labels) → 0 < length (pieces (reverse e)) → 0 < length e
pieces_some [] h = h
pieces_some (l ∷ ls) h = omega arith

some_pieces : (e : Labels) → 0 < length e → 0 < length (from_root e)
some_pieces [] h = h
some_pieces (l ∷ ls) h = let a = ap length (from_root_cons l ls) ∙ length-append (from_root ls) (length l ∷ l) in omega arith

below_behind : (n m : Labels) (f : Octets) → 0 < length f → from_root n ≡ from_root m ++ f → below n m ≡ true
below_behind n m f p h =
    let r = behind n m f h in
    let q : 0 < length r.0 = pieces_some r.0 (let u = ap length r.2 in omega arith) in
    rw r.1 (below_join r.0 m q)

-- and what is below has such a place
behind_below : (n m : Labels) → below n m ≡ true → (f : Octets) × (0 < length f) × (from_root n ≡ from_root m ++ f)
behind_below n m h =
    let r = below_split n m h in
    (from_root r.0, some_pieces r.0 r.1, ap from_root r.2 ∙ ap pieces (reverse-append r.0 m) ∙ pieces_append (reverse m) (reverse r.0))

-- strings that go on
pub goes_on_split : (a b : Octets) → goes_on a b ≡ true → (f : Octets) × (0 < length f) × (a ≡ b ++ f)
goes_on_split [] b h = absurd (false≢true h)
goes_on_split (x ∷ xs) [] h = (x ∷ xs, omega arith, refl)
goes_on_split (x ∷ xs) (y ∷ ys) h =
    let i : x ≡ y = grind (arith, nat_tests) in
    let r = goes_on_split xs ys (let c = cases_Bool (goes_on xs ys) in grind (arith, nat_tests)) in
    (r.0, r.1, ap₂ (λ a b. a ∷ b) i r.2)

pub goes_on_join : (b f : Octets) → 0 < length f → goes_on (b ++ f) b ≡ true
goes_on_join [] [] h = absurd (omega arith)
goes_on_join [] (x ∷ xs) h = refl
goes_on_join (y ∷ ys) f h = let ih = goes_on_join ys f h in grind (arith, nat_tests)

pub less_on : (b f : Octets) → 0 < length f → by_octets b (b ++ f) ≡ Less
less_on [] [] h = absurd (omega arith)
less_on [] (x ∷ xs) h = refl
less_on (y ∷ ys) f h = let ih = less_on ys f h in grind (arith, nat_tests)

-- what a test of the front says
pub goes_on_found : (a b : Octets) (r : Bool) → length b < length a → r ≡ pointwise eqb b (take (length b) a) → r ≡ goes_on a b
goes_on_found a b r h m =
    let s = starts_is Decides-eqb a b r m in
    ⊎_elim
    (λ t.
    let e = s.0 t in
    let l = length-drop (length b) a in
    t ∙ sym (ap (λ u. goes_on u b) e ∙ goes_on_join b (drop (length b) a) (omega arith)))
    (λ f. ⊎_elim
    (λ t. let q = goes_on_split a b t in s.1 q.0 q.2 ∙ sym t)
    (λ g. f ∙ sym g)
    (cases_Bool (goes_on a b)))
    (cases_Bool r)

pub goes_on_short : (a b : Octets) → length a ≤ length b → false ≡ goes_on a b
goes_on_short [] b h = refl
goes_on_short (x ∷ xs) [] h = absurd (omega arith)
goes_on_short (x ∷ xs) (y ∷ ys) h = let ih = goes_on_short xs ys (omega arith) in let c = cases_Bool (x == y) in grind (arith, nat_tests)

goes_on_below : (n m : Labels) → goes_on (from_root n) (from_root m) ≡ below n m
goes_on_below n m =
    ⊎_elim
    (λ t. let r = behind_below n m t in ap (λ s. goes_on s (from_root m)) r.2 ∙ goes_on_join (from_root m) r.0 r.1 ∙ sym t)
    (λ f. ⊎_elim
    (λ t. let r = goes_on_split (from_root n) (from_root m) t in t ∙ sym (below_behind n m r.0 r.1 r.2))
    (λ g. g ∙ sym f)
    (cases_Bool (goes_on (from_root n) (from_root m))))
    (cases_Bool (below n m))

none_left : (e : Labels) → from_root e ≡ [] → e ≡ []
none_left [] h = refl
none_left (l ∷ ls) h = absurd (let a = some_pieces (l ∷ ls) (omega arith) in let b = ap length h in omega arith)

apart : (n m : Labels) → from_root n ≡ from_root m → n ≡ m
apart n m e =
    let r = behind n m [] (e ∙ sym (append-nil (from_root m))) in
    let z : r.0 ≡ [] = none_left r.0 (sym r.2) in
    r.1 ∙ ap (λ t. t ++ m) z

pub reversed_family : Family from_root by_octets goes_on
reversed_family = record {
  apart = λ n m h k e. apart n m e;
  as_names = λ n m h k. goes_on_below n m;
  first = λ n m h k b. let r = behind_below m n b in ap (by_octets (from_root n)) r.2 ∙ less_on (from_root n) r.0 r.1;
  between = λ n p m h j k b e f.
      let r = behind_below m n b in
      let s = prefix_between nat_cmp numbers_total (from_root n) (from_root p) r.0 e (sym (ap (by_octets (from_root p)) r.2) ∙ f) in
      below_behind p n s.0 s.1 s.2;
}

-- a name's place has one octet less than the name
pub name_length : (s : Octets) → is_name s ≡ true → length s ≡ length (from_root (labels_of s)) + 1
name_length s h = sym (ap length (wire_labels s h).1 ∙ length-map s lower) ∙ from_root_length (labels_of s)

-- a name t, its first label and the rest u
pub record Cut (l t u : Octets) : Type 0 where
  pub name : is_name u ≡ true
  pub some : 1 ≤ length u
  pub parts : length t ≡ length l + length u + 1
  pub short : length t ≤ 255

pub cut : (s l r t u : Octets) → is_name s ≡ true → Some (l, r) ≡ first_label s → t ≡ s → u ≡ r → Cut l t u
cut s l r t u h e f g =
    let n : is_name u ≡ true = ap is_name g ∙ name_first s l r (sym e) h in
    record {
      name = n;
      some = let i = name_length u n in omega arith;
      parts = let i = ap length (f ∙ (first_parts s l r (sym e)).0) in let j = length-append l r in let k = ap length g in omega arith;
      short = name_short t (ap is_name f ∙ h);
    }

-- one label more, with its length, in lower case
pub step : (s l r out x p done : Octets) (a j k : ℕ) → is_name s ≡ true → Some (l, r) ≡ first_label s → length out ≡ 255 → a ≡ length r - 1 → j ≡ length l + 1 → k ≡ j → x ≡ take j s → p ≡ map ascii_lower x → written (from_root (labels_of s)) out ≡ done → (written (from_root (labels_of r)) (put_mid a k out p) ≡ done) × (length (put_mid a k out p) ≡ 255)
step s l r out x p done a j k h e long at count same from low before =
    let c = cut s l r s r h e refl refl in
    let parts = c.parts in
    let short = c.short in
    let f = first_parts s l r (sym e) in
    let small = f.2 in
    let here = name_length r c.name in
    let root = from_root (labels_of r) in
    let i : a ≡ length root = omega arith in
    let u : take j s ≡ length l ∷ l = ap₂ take (count ∙ add-one (length l)) f.0 ∙ ap (λ t. length l ∷ t) (take_at l r (length l) refl) in
    let q : p ≡ length l ∷ map lower l = low ∙ ap (map ascii_lower) (from ∙ u) ∙ ascii_lower_all (length l ∷ l) ∙ ap (λ t. t ∷ map lower l) (grind (arith, nat_tests)) in
    let n : length (length l ∷ map lower l) ≡ length l + 1 = let m = length-map l lower in omega arith in
    let all : from_root (labels_of s) ≡ root ++ (length l ∷ map lower l) = ap from_root (labels_first s l r (sym e)) ∙ from_root_cons (map lower l) (labels_of r) ∙ ap (λ t. root ++ (t ∷ map lower l)) (length-map l lower) in
    let m : length (root ++ (length l ∷ map lower l)) ≡ a + k = length-append root (length l ∷ map lower l) ∙ omega arith in
    let t : length (take a out) ≡ a = length-take-le a out (omega arith) in
    let d : drop (length root) (put_mid a k out p) ≡ p ++ drop k (drop a out) = drop_at (take a out) (p ++ drop k (drop a out)) (length root) (t ∙ i) in
    let rest : drop k (drop a out) ≡ drop (a + k) out = drop-drop k a out in
    let after : root ++ (p ++ drop k (drop a out)) ≡ written (from_root (labels_of s)) out = ap₂ (λ y z. root ++ (y ++ z)) q (rest ∙ ap (λ y. drop y out) (sym m)) ∙ sym (append_assoc root (length l ∷ map lower l) (drop (length (root ++ (length l ∷ map lower l))) out)) ∙ ap (λ y. written y out) (sym all) in
    let b : length (put_mid a k out p) ≡ 255 = length-append (take a out) (p ++ drop k (drop a out)) ∙ (let v = length-append p (drop k (drop a out)) in let w = ap length rest ∙ length-drop (a + k) out in let z = ap length q in omega arith) in
    (ap (λ y. root ++ y) d ∙ after ∙ before, b)

-- at the root all is written
pub nothing_left : (s out done : Octets) → None ≡ first_label s → written (from_root (labels_of s)) out ≡ done → out ≡ done
nothing_left s out done e h = ap (λ n. written (from_root n) out) (sym (labels_none s (sym e))) ∙ h
