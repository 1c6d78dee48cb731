-- `wire` and `parse` undo each other.
use Rattle.std.proofs.Common.{◌≡◌, ℕ, zero, suc, ◌≤◌, true, leb, ◌⊎◌, [], ◌∷◌, map, length, Some, None, Option, refl, ap, ◌∙◌, ap₂, inl, inr, ⊎_elim, arith}
use Rattle.std.proofs.lemmas.List.{length-append, length-map, map-append, take_at, drop_at}
use Rattle.std.proofs.lemmas.Bool.{cases_Bool, and_parts}
use Rattle.std.proofs.lemmas.Bool.Decides.{nat_tests}
use Rattle.names.specs.Wire.{Octets, Label, Labels, lower, wire, ends, is_name, labels_of, parse, first_label, lower_octets, is_label, are_labels, is_labels}
use Rattle.names.specs.Laws.{WireAndParse}
use Rattle.names.proofs.Reader.{ends_first, labels_first, labels_none, first_parts, name_first, root_alone, rest_shorter, lower_octets_map}

pub map_lower_octets : (l : Octets) → lower_octets l ≡ true → map lower l ≡ l
map_lower_octets [] h = refl
map_lower_octets (x ∷ xs) h = let ih = map_lower_octets xs in grind (arith, nat_tests)

-- the first label of a wire form
pub first_wire : (l : Label) (ls : Labels) → is_label l ≡ true → first_label (wire (l ∷ ls)) ≡ Some (l, wire ls)
first_wire l ls h =
    let n = length-append l (wire ls) in
    let t = take_at l (wire ls) (length l) refl in
    let d = drop_at l (wire ls) (length l) refl in
    grind (arith, nat_tests)

ends_wire : (n : Labels) → are_labels n ≡ true → ends 0 (wire n) ≡ true
ends_wire [] h = refl
ends_wire (l ∷ ls) h =
    let p = and_parts (is_label l) (are_labels ls) h in
    ends_first (wire (l ∷ ls)) l (wire ls) (first_wire l ls p.0) ∙ ends_wire ls p.1

pub labels_wire : (n : Labels) → are_labels n ≡ true → labels_of (wire n) ≡ n
labels_wire [] h = labels_none (0 ∷ []) refl
labels_wire (l ∷ ls) h =
    let p = and_parts (is_label l) (are_labels ls) h in
    let low : lower_octets l ≡ true = let q = p.0 in grind (arith, nat_tests) in
    labels_first (wire (l ∷ ls)) l (wire ls) (first_wire l ls p.0) ∙ ap₂ (λ a b. a ∷ b) (map_lower_octets l low) (labels_wire ls p.1)

-- a name's labels, by way of its first label; the octets are counted so that the recursion ends
lower_length : (k : ℕ) → k ≤ 63 → lower k ≡ k
lower_length k h = grind (arith, nat_tests)

either_label : (o : Option (Octets × Octets)) → (o ≡ None) ⊎ ((p : Octets × Octets) × (o ≡ Some p))
either_label None = inl refl
either_label (Some p) = inr (p, refl)

root_wire : (s : Octets) → first_label s ≡ None → is_name s ≡ true → (are_labels (labels_of s) ≡ true) × (wire (labels_of s) ≡ map lower s)
root_wire s e p =
    let r = root_alone s e p in
    let l = labels_none s e in
    (rw l refl, rw (l, r) refl)

label_wire : (s l r : Octets) → first_label s ≡ Some (l, r) → are_labels (labels_of r) ≡ true → wire (labels_of r) ≡ map lower r → (are_labels (labels_of s) ≡ true) × (wire (labels_of s) ≡ map lower s)
label_wire s l r e a w =
    let f = labels_first s l r e in
    let p = first_parts s l r e in
    let n = length-map l lower in
    let o = lower_octets_map l in
    let g : is_label (map lower l) ≡ true = let u = p.1 in let v = p.2 in grind (arith, nat_tests) in
    let k = lower_length (length l) p.2 in
    let m = map-append lower l r in
    (rw f (rw (g, a) refl), rw (f, p.0) (rw (n, w, k, m) refl))

wire_labels_by : (bound : ℕ) (s : Octets) → length s ≤ bound → is_name s ≡ true → (are_labels (labels_of s) ≡ true) × (wire (labels_of s) ≡ map lower s)
wire_labels_by zero s h p =
    ⊎_elim
    (λ e. root_wire s e p)
    (λ e. absurd (let q = rest_shorter s e.0.0 e.0.1 e.1 in omega arith))
    (either_label (first_label s))
wire_labels_by (suc bound) s h p =
    ⊎_elim
    (λ e. root_wire s e p)
    (λ e.
    let q = rest_shorter s e.0.0 e.0.1 e.1 in
    let ih = wire_labels_by bound e.0.1 (omega arith) (name_first s e.0.0 e.0.1 e.1 p) in
    label_wire s e.0.0 e.0.1 e.1 ih.0 ih.1)
    (either_label (first_label s))

-- the labels of a name are labels, and their wire form is the name in lower case
pub wire_labels : (s : Octets) → is_name s ≡ true → (are_labels (labels_of s) ≡ true) × (wire (labels_of s) ≡ map lower s)
wire_labels s p = wire_labels_by (length s) s (omega arith) p

pub name_short : (s : Octets) → is_name s ≡ true → length s ≤ 255
unfolding is_name
name_short s p = let q = (and_parts (leb (length s) 255) (ends 0 s) p).0 in grind (arith, nat_tests)

pub are_labels_lem : (s : Octets) → is_name s ≡ true → is_labels (labels_of s) ≡ true
unfolding is_labels
are_labels_lem s p =
    let w = wire_labels s p in
    let n = ap length w.1 ∙ length-map s lower in
    let k = name_short s p in
    let a = w.0 in
    grind (arith, nat_tests)

pub name_wire : (n : Labels) → is_labels n ≡ true → is_name (wire n) ≡ true
unfolding is_labels is_name
name_wire n p = let e = ends_wire n in grind (arith, nat_tests)

pub labels_parts : (n : Labels) → is_labels n ≡ true → are_labels n ≡ true
unfolding is_labels
labels_parts n p = (and_parts (leb (length (wire n)) 255) (are_labels n) p).1

back : (s : Octets) (n : Labels) → parse s ≡ Some n → (is_labels n ≡ true) × (wire n ≡ map lower s)
back s n e =
    let t : is_name s ≡ true = let c = cases_Bool (is_name s) in grind arith in
    let l : labels_of s ≡ n = let c = cases_Bool (is_name s) in grind arith in
    (rw (← l) (are_labels_lem s t), rw (← l) (wire_labels s t).1)

pub wire_and_parse : WireAndParse
wire_and_parse = record {
  parse_wire = λ n p.
      let a = name_wire n p in
      let l = labels_wire n (labels_parts n p) in
      grind arith;
  wire_parse = back;
}
