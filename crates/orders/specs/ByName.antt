-- Canonical order of wire forms in lower case.
use Rattle.std.specs.Prelude.{◌≡◌, ◌≤◌, true, map, length, refl}
use Rattle.std.proofs.Common.{sym, ap, ap₂, ◌∙◌}
use Rattle.std.proofs.lemmas.Bool.{and_parts}
use Rattle.names.proofs.Ordered.{canonical_total, families}
use Rattle.names.proofs.Reader.{lower_octets_map}
use Rattle.names.proofs.Undo.{map_lower_octets, wire_labels, name_short, name_wire, labels_wire, labels_parts}
use Rattle.names.specs.Canonical.{canonical, below}
use Rattle.names.specs.Wire.{Octets, Labels, is_name, is_labels, labels_of, lower_octets, lower, wire}
use Rattle.orders.specs.Places.{is_lower_name, by_names, below_names}
use Rattle.orders.specs.Ring.{Ring, Family}

is_name_lem : (p : Octets) → is_lower_name p ≡ true → is_name p ≡ true
is_name_lem p h = (and_parts (is_name p) (lower_octets p) h).0

is_lower : (p : Octets) → is_lower_name p ≡ true → lower_octets p ≡ true
is_lower p h = (and_parts (is_name p) (lower_octets p) h).1

back : (n : Labels) → is_labels n ≡ true → labels_of (wire n) ≡ n
back n h = labels_wire n (labels_parts n h)

pub wire_place : (n : Labels) → is_labels n ≡ true → is_lower_name (wire n) ≡ true
wire_place n h =
    let k = name_wire n h in
    let e : wire n ≡ map lower (wire n) = ap wire (sym (back n h)) ∙ (wire_labels (wire n) k).1 in
    let l : lower_octets (wire n) ≡ true = ap lower_octets e ∙ lower_octets_map (wire n) in
    rw (k, l) refl

pub place_short : (p : Octets) → is_lower_name p ≡ true → length p ≤ 255
place_short p h = name_short p (is_name_lem p h)

-- a lower-case wire form is that of its labels
whole : (p : Octets) → is_lower_name p ≡ true → wire (labels_of p) ≡ p
whole p h = (wire_labels p (is_name_lem p h)).1 ∙ map_lower_octets p (is_lower p h)

by_labels : (a b : Octets) → is_name a ≡ true → is_name b ≡ true → by_names a b ≡ canonical (labels_of a) (labels_of b)
by_labels a b h k = rw (h, k) refl

pub names_ring : Ring is_lower_name by_names
names_ring = record {
  itself = λ a p. by_labels a a (is_name_lem a p) (is_name_lem a p) ∙ canonical_total.itself (labels_of a);
  same = λ a b p q e. sym (whole a p) ∙ ap wire (canonical_total.same (labels_of a) (labels_of b) (sym (by_labels a b (is_name_lem a p) (is_name_lem b q)) ∙ e)) ∙ whole b q;
  greater = λ a b p q e. by_labels b a (is_name_lem b q) (is_name_lem a p) ∙ canonical_total.greater (labels_of a) (labels_of b) (sym (by_labels a b (is_name_lem a p) (is_name_lem b q)) ∙ e);
  less = λ a b p q e. by_labels b a (is_name_lem b q) (is_name_lem a p) ∙ canonical_total.less (labels_of a) (labels_of b) (sym (by_labels a b (is_name_lem a p) (is_name_lem b q)) ∙ e);
  transitive = λ a b c p q r e f. by_labels a c (is_name_lem a p) (is_name_lem c r) ∙ canonical_total.transitive (labels_of a) (labels_of b) (labels_of c) (sym (by_labels a b (is_name_lem a p) (is_name_lem b q)) ∙ e) (sym (by_labels b c (is_name_lem b q) (is_name_lem c r)) ∙ f);
}

by_wire : (n m : Labels) → is_labels n ≡ true → is_labels m ≡ true → by_names (wire n) (wire m) ≡ canonical n m
by_wire n m h k = by_labels (wire n) (wire m) (name_wire n h) (name_wire m k) ∙ ap₂ canonical (back n h) (back m k)

below_wire : (n m : Labels) → is_labels n ≡ true → is_labels m ≡ true → below_names (wire n) (wire m) ≡ below n m
below_wire n m h k =
    let a = name_wire n h in
    let b = name_wire m k in
    rw (a, b) (ap₂ below (back n h) (back m k))

pub names_family : Family wire by_names below_names
names_family = record {
  apart = λ n m h k e. sym (back n h) ∙ ap labels_of e ∙ back m k;
  as_names = below_wire;
  first = λ n m h k b. by_wire n m h k ∙ families.below_greater m n b;
  between = λ n p m h j k b e f. families.between_below n p m b (sym (by_wire n p h j) ∙ e) (sym (by_wire p m j k) ∙ f);
}
