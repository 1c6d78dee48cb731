-- The steps of printing a name, and what a name's labels are.
use Rattle.std.proofs.Common.{◌≡◌, ℕ, zero, suc, ◌<◌, ◌≤◌, true, [], ◌∷◌, length, get_or, Some, refl, ap, ◌∙◌, arith}
use Rattle.std.proofs.lemmas.Bool.Decides.{nat_tests}
use Rattle.names.specs.Wire.{wire, Octets, Labels, lower, split, labels_of}
use Rattle.names.proofs.Reader.{labels_whole}
use Rattle.script.proofs.NameRound.{name_round}
use Rattle.script.specs.NameText.{read_name, labels_text, name_text, are_octets, are_octet_labels}

-- a name with labels
pub some_labels : (n : Labels) → (length n ≡ 0 → ⊥) → labels_text n ≡ name_text n
some_labels [] h = absurd (h refl)
some_labels (l ∷ ls) h = refl

-- the octets of labels
lower_octet : (x : ℕ) → x ≤ 255 → lower x ≤ 255
lower_octet x h = grind (arith, nat_tests)

split_octets : (k : ℕ) (s : Octets) → are_octets s ≡ true → are_octets (split k s).0 ≡ true
split_octets zero [] h = refl
split_octets (suc k) [] h = refl
split_octets zero (x ∷ xs) h = refl
split_octets (suc k) (x ∷ xs) h = let ih = split_octets k xs in let e = lower_octet x in grind (arith, nat_tests)

split_octet_labels : (k : ℕ) (s : Octets) → are_octets s ≡ true → are_octet_labels (split k s).1 ≡ true
split_octet_labels zero [] h = refl
split_octet_labels (suc k) [] h = refl
split_octet_labels zero (x ∷ xs) h =
    let ih = split_octet_labels x xs in
    let o = split_octets x xs in
    grind (arith, nat_tests)
split_octet_labels (suc k) (x ∷ xs) h = split_octet_labels k xs (grind arith)

pub octet_labels : (s : Octets) → are_octets s ≡ true → are_octet_labels (labels_of s) ≡ true
unfolding labels_of
octet_labels s h = split_octet_labels 0 s h

pub octets_typed : (s : Octets) → ((i : ℕ) → get_or s i 0 < 256) → are_octets s ≡ true
octets_typed [] h = refl
octets_typed (x ∷ xs) h =
    let ih = octets_typed xs (λ i. h (suc i)) in
    let e = h 0 in
    grind (arith, nat_tests)

-- a printed name reads back
pub name_back : (s t : Octets) → are_octets s ≡ true → t ≡ name_text (labels_of s) → read_name t ≡ Some (wire (labels_of s))
name_back s t b e = ap read_name e ∙ name_round (labels_of s) (labels_whole s) (octet_labels s b)
