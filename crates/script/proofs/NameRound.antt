-- A name that is printed reads back.
use Rattle.std.proofs.Common.{◌≡◌, ℕ, ◌+◌, ◌/◌, ◌%◌, ◌≤◌, true, false, eqb, [], ◌∷◌, ◌++◌, Some, sym, refl, ap, ◌∙◌, ⊎_elim, arith}
use Rattle.std.proofs.lemmas.List.{append_assoc, append-nil}
use Rattle.std.proofs.lemmas.Bool.{cases_Bool}
use Rattle.std.proofs.lemmas.Bool.Decides.{nat_tests}
use Rattle.names.specs.Wire.{Octets, Label, Labels, wire, are_labels}
use Rattle.script.specs.NameText.{read_labels, read_name, name_text, labels_text, label_text, octet_text, is_shown, is_plain, is_octet3, decimal3, is_whole, are_octets, are_octet_labels}

-- the three digits of an octet are digits, and write it
octet3 : (x : ℕ) → x ≤ 255 → is_octet3 (48 + x / 100) (48 + x / 10 % 10) (48 + x % 10) ≡ true
octet3 x h = grind (arith, nat_tests)

octet3_value : (x : ℕ) → x ≤ 255 → decimal3 (48 + x / 100) (48 + x / 10 % 10) (48 + x % 10) ≡ x
octet3_value x h = omega arith

-- a character that is shown is no dot and no `\`
shown_plain : (x : ℕ) → is_shown x ≡ true → (eqb x 46 ≡ false) × (eqb x 92 ≡ false) × (is_plain x ≡ true) × (eqb x 61 ≡ false)
shown_plain x h = (grind (arith, nat_tests), grind (arith, nat_tests), grind (arith, nat_tests), grind (arith, nat_tests))

escape_three : (label : Label) (a b c : ℕ) (t : Octets) → is_octet3 a b c ≡ true → read_labels label (92 ∷ a ∷ b ∷ c ∷ t) ≡ read_labels (label ++ decimal3 a b c ∷ []) t
escape_three label a b c t h = grind arith

-- one printed octet goes to the label
pub read_octet : (label : Label) (x : ℕ) (t : Octets) → x ≤ 255 → read_labels label (octet_text x ++ t) ≡ read_labels (label ++ x ∷ []) t
read_octet label x t h =
    ⊎_elim
    (λ e. let p = shown_plain x e in rw (e, p.0, p.1, p.2))
    (λ e. rw e
    (escape_three label (48 + x / 100) (48 + x / 10 % 10) (48 + x % 10) t (octet3 x h)
    ∙ ap (λ y. read_labels (label ++ y ∷ []) t) (octet3_value x h)))
    (cases_Bool (is_shown x))

-- so does a printed label
pub read_label : (label l : Label) (t : Octets) → are_octets l ≡ true → read_labels label (label_text l ++ t) ≡ read_labels (label ++ l) t
read_label label [] t h = rw append-nil
read_label label (x ∷ xs) t h =
    let b : x ≤ 255 = grind (arith, nat_tests) in
    let r : are_octets xs ≡ true = grind (arith, nat_tests) in
    rw (append_assoc (octet_text x) (label_text xs) t) (read_octet label x (label_text xs ++ t) b)
    ∙ read_label (label ++ x ∷ []) xs t r
    ∙ rw (append_assoc label (x ∷ []) xs)

-- printed labels read back
pub read_labels_lem : (n : Labels) → are_labels n ≡ true → are_octet_labels n ≡ true → read_labels [] (labels_text n) ≡ Some (wire n)
read_labels_lem [] h o = refl
read_labels_lem (l ∷ ls) h o =
    let w : is_whole l ≡ true = grind (arith, nat_tests) in
    let a : are_octets l ≡ true = grind (arith, nat_tests) in
    let ih = read_labels_lem ls (grind arith) (grind arith) in
    read_label [] l (46 ∷ labels_text ls) a ∙ rw (w, ih)

-- a text that does not begin with `=` or a dot reads as labels
as_labels : (c : ℕ) (cs : Octets) → eqb c 61 ≡ false → eqb c 46 ≡ false → read_name (c ∷ cs) ≡ read_labels [] (c ∷ cs)
as_labels c cs e d = rw (e, d)

read_first : (x : ℕ) (t : Octets) → read_name (octet_text x ++ t) ≡ read_labels [] (octet_text x ++ t)
read_first x t =
    ⊎_elim
    (λ e. let p = shown_plain x e in rw e (as_labels x t p.3 p.0))
    (λ e. rw e)
    (cases_Bool (is_shown x))

-- the law: what is printed of a name reads as its wire form
pub name_round : (n : Labels) → are_labels n ≡ true → are_octet_labels n ≡ true → read_name (name_text n) ≡ Some (wire n)
name_round [] h o = refl
name_round ([] ∷ ls) h o = absurd (grind (arith, nat_tests))
name_round ((x ∷ xs) ∷ ls) h o =
    let e = append_assoc (octet_text x) (label_text xs) (46 ∷ labels_text ls) in
    ap read_name e ∙ read_first x (label_text xs ++ 46 ∷ labels_text ls) ∙ ap (read_labels []) (sym e) ∙ read_labels_lem ((x ∷ xs) ∷ ls) h o
