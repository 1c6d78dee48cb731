-- Types that are printed read back.
use Rattle.std.proofs.Common.{◌≡◌, ℕ, suc, ◌-◌, ◌^◌, ◌<◌, ◌≤◌, true, leb, List, [], ◌∷◌, ◌++◌, length, get_or, take, drop, Some, decimal, sym, refl, ap, ◌∙◌, arith}
use Rattle.std.proofs.lemmas.Fmt.{decimal_nonempty, digits_decimal, digits_value-decimal, length-decimal-le}
use Rattle.std.proofs.lemmas.List.{append-nil, take_rest, drop_all}
use Rattle.std.proofs.lemmas.Str.Parse.{not_in_digits}
use Rattle.std.proofs.lemmas.Bool.Decides.{nat_tests}
use Rattle.names.specs.Wire.{Octets}
use Rattle.script.specs.TypeText.{are_digits, number_after, is_number, read_type, read_types, read_pieces, further_text, types_text, are_types, one_more}
use Rattle.script.proofs.TypeSteps.{own, NoComma, pieces_skip, not_dash}

fits : (t : ℕ) → t ≤ 65535 → t < 2 ^ 64
fits t h = omega arith

number_decimal : (t : ℕ) → t ≤ 65535 → is_number (decimal t) ≡ true
number_decimal t h =
    let a = decimal_nonempty t (fits t h) in
    let b = length-decimal-le 5 t (omega arith) (omega arith) (fits t h) in
    let d = digits_decimal own t (fits t h) in
    let v = digits_value-decimal own t (fits t h) in
    number_by (decimal t) t a b d v h
  where
    number_by : (s : Octets) (t : ℕ) → 0 < length s → length s ≤ 5 → are_digits s ≡ true → number_after 0 s ≡ t → t ≤ 65535 → is_number s ≡ true
    number_by s t a b d v h = grind (arith, nat_tests)

-- a printed type reads back
pub read_decimal : (t : ℕ) → t ≤ 65535 → read_type (decimal t) ≡ Some t
read_decimal t h = read_by (decimal t) t (number_decimal t h) (digits_value-decimal own t (fits t h))
  where
    read_by : (s : Octets) (t : ℕ) → is_number s ≡ true → number_after 0 s ≡ t → read_type s ≡ Some t
    read_by s t n v = rw (n, v)

no_comma : (t : ℕ) → t ≤ 65535 → NoComma (decimal t)
no_comma t h = not_in_digits own (decimal t) 44 (digits_decimal own t (fits t h)) (λ p. omega arith)

read_list : (t : ℕ) (ts : List ℕ) → t ≤ 65535 → are_types ts ≡ true → read_pieces [] (decimal t ++ further_text ts) ≡ Some (t ∷ ts)
read_list t [] h o =
    pieces_skip (decimal t) [] [] (no_comma t h) ∙ ap (λ y. one_more y (Some [])) (read_decimal t h)
read_list t (u ∷ us) h o =
    let b : u ≤ 65535 = grind (arith, nat_tests) in
    let r : are_types us ≡ true = grind (arith, nat_tests) in
    pieces_skip (decimal t) [] (further_text (u ∷ us)) (no_comma t h)
    ∙ ap (λ y. one_more y (read_pieces [] (decimal u ++ further_text us))) (read_decimal t h)
    ∙ ap (λ o. one_more (Some t) o) (read_list u us b r)

-- a text that begins with a digit is not `-`
first_digit : (s r : Octets) → 0 < length s → are_digits s ≡ true → s ++ r ≡ 45 ∷ [] → ⊥
first_digit [] r h d e = omega arith
first_digit (x ∷ xs) r h d e =
    let f : x ≡ 45 = ap (λ l. get_or l 0 0) e in
    let g : leb 48 x ≡ true = grind arith in
    grind (arith, nat_tests)

-- the law: what is printed of types reads as these types
pub types_round : (ts : List ℕ) → are_types ts ≡ true → read_types (types_text ts) ≡ Some ts
types_round [] o = refl
types_round (t ∷ ts) o =
    let b : t ≤ 65535 = grind (arith, nat_tests) in
    let r : are_types ts ≡ true = grind (arith, nat_tests) in
    not_dash (decimal t ++ further_text ts) (first_digit (decimal t) (further_text ts) (decimal_nonempty t (fits t b)) (digits_decimal own t (fits t b)))
    ∙ read_list t ts b r

pub types_typed : (ts : List ℕ) → ((i : ℕ) → get_or ts i 0 < 65536) → are_types ts ≡ true
types_typed [] h = refl
types_typed (t ∷ ts) h =
    let ih = types_typed ts (λ i. h (suc i)) in
    let e = h 0 in
    grind (arith, nat_tests)

pub types_back : (ts : List ℕ) (s : Octets) → ((i : ℕ) → get_or ts i 0 < 65536) → s ≡ types_text ts → read_types s ≡ Some ts
types_back ts s h e = ap read_types e ∙ types_round ts (types_typed ts h)

pub some_text : (ts : List ℕ) (s : Octets) → 0 < length ts → s ≡ decimal (get_or ts 0 0) → s ++ further_text (take (length ts - 1) (drop 1 ts)) ≡ types_text ts
some_text [] s h e = absurd (omega arith)
some_text (t ∷ ts) s h e = ap (λ y. y ++ further_text (take (length (t ∷ ts) - 1) ts)) e ∙ ap (λ y. decimal t ++ further_text y) (take_rest (t ∷ ts) 1)

pub further_end : (i : ℕ) (ts : List ℕ) (s : Octets) → length ts ≤ i → s ≡ s ++ further_text (drop i ts)
further_end i ts s h = sym (ap (λ y. s ++ further_text y) (drop_all i ts h) ∙ append-nil s)
