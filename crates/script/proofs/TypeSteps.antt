-- The steps of the readers and printers of types, as the code takes them.
use Rattle.std.proofs.Common.{lit<, IsTrue, ◌↔◌, ◌≡◌, ℕ, suc, ◌+◌, ◌^◌, ◌<◌, ◌≤◌, Bool, true, false, cond, ◌&&◌, eqb, List, [], ◌∷◌, ◌++◌, map, length, get_or, drop, Some, None, Ok, Err, Option, Result, sym, refl, ap, ◌∙◌, ⊎_elim, arith, Bor, rules}
use Rattle.std.proofs.lemmas.List.{append_assoc, append-nil, at_drop_more, at_drop_all}
use Rattle.std.proofs.lemmas.Bool.{cases_Bool, false≢true}
use Rattle.std.proofs.lemmas.Bool.Decides.{nat_tests}
use Rattle.std.specs.Char.{to_ascii_lowercase}
use Rattle.names.specs.Orders.{octets_decide}
use Rattle.names.specs.Wire.{Octets, same_octets}
use Rattle.script.specs.Reads.{row}
use Rattle.std.proofs.lemmas.Str.Parse.{IsNumeralModel, numerals_by_fold}
use Rattle.std.proofs.lemmas.Iterator.{YieldsList}
use Rattle.std.proofs.lemmas.Iterator.Splits.{YieldsList-from_str_split}
use Rattle.std.specs.Str.Iter.{split_steps, split_text, split_has_more, split_pattern}
use Rattle.std.specs.Str.Pattern.{FindsChar}
use Rattle.std.specs.declared.str.Split.{Split}
use Rattle.std.proofs.lemmas.List.Recursion.{same_from_clauses}
use Rattle.std.specs.List.{list_all, find, slice_split, onto_first}
use Rattle.std.specs.Option.{option_map}
use Rattle.std.specs.Result.{OkIff, result_ok}
use Rattle.script.specs.NameText.{is_digit, before}
use Rattle.script.proofs.NameSteps.{before_more, before_nothing}
use Rattle.script.specs.TypeText.{named, are_digits, number_after, is_number, read_type, read_types, read_pieces, one_more}

pub same_from : (a b : Octets) → a ≡ b → same_octets a b ≡ true
same_from a b e = rw e (((octets_decide b b).1 refl))

apart_by : (a b : Octets) (t : Bool) → same_octets a b ≡ t → (a ≡ b → ⊥) → t ≡ false
apart_by a b true e n = absurd (n (((octets_decide a b).0) e))
apart_by a b false e n = refl

pub apart_from : (a b : Octets) → (a ≡ b → ⊥) → same_octets a b ≡ false
apart_from a b n = apart_by a b (same_octets a b) refl n

-- whether a row's word is the text, in either case
abbrev pub is_word : Octets → Bor (List ℕ) × ℕ → Bool
is_word s e = same_octets (map to_ascii_lowercase s) (map to_ascii_lowercase e.0.now)

pub tested : (s : Octets) (e : Bor (List ℕ) × ℕ) (b : Bool) → IsTrue b ↔ (map to_ascii_lowercase s ≡ map to_ascii_lowercase e.0.now) → b ≡ is_word s e
tested s e true h = sym (same_from (map to_ascii_lowercase s) (map to_ascii_lowercase e.0.now) (h.0 refl))
tested s e false h = sym (apart_from (map to_ascii_lowercase s) (map to_ascii_lowercase e.0.now) (λ q. false≢true (h.1 q)))

-- the number beside the first such row
named_found : (s : Octets) (ts : List (Bor (List ℕ) × ℕ)) → option_map (λ e. e.1) (find (is_word s) ts) ≡ named s (map row ts)
named_found s [] = refl
named_found s (e ∷ es) = let ih = named_found s es in grind arith

number_of : (r : Option (Bor (Bor (List ℕ) × ℕ))) → option_map (λ e. e.now.1) r ≡ option_map (λ e. e.1) (option_map (λ e. e.now) r)
number_of None = refl
number_of (Some e) = refl

pub named_by : (s : Octets) (ts : List (Bor (List ℕ) × ℕ)) (r : Option (Bor (Bor (List ℕ) × ℕ))) (n : Option ℕ) → n ≡ option_map (λ e. e.now.1) r → option_map (λ e. e.now) r ≡ find (is_word s) ts → n ≡ named s (map row ts)
named_by s ts r n e f = e ∙ number_of r ∙ ap (option_map (λ e. e.1)) f ∙ named_found s ts

-- digits, in std's words
pub own : IsNumeralModel (λ ds. are_digits ds ≡ true) (number_after 0)
own = numerals_by_fold _ (search rules) number_after (search rules)

-- what `parse` makes of digits
pub parsed : {E : Type 0} (s : Octets) (r : Result ℕ E) → OkIff r ((0 < length s) × (number_after 0 s < 2 ^ 16)) (number_after 0 s) → length s ≤ 5 → are_digits s ≡ true → result_ok r ≡ cond (is_number s) (Some (number_after 0 s)) None
parsed s (Ok x) h k d =
    let n : is_number s ≡ true = let a = h.0.0 in let b = h.0.1 in grind (arith, nat_tests) in
    rw n (ap Some h.1)
parsed s (Err e) h k d =
    let n : is_number s ≡ false = ⊎_elim (λ t. absurd (h (let a : 1 ≤ length s = grind (arith, nat_tests) in let b : number_after 0 s ≤ 65535 = grind (arith, nat_tests) in (omega arith, omega arith)))) (λ f. f) (cases_Bool (is_number s)) in
    rw n

-- a test of every character
pub digits_all : (s : Octets) → list_all is_digit s ≡ are_digits s
digits_all = same_from_clauses (list_all is_digit) are_digits (λ c b. is_digit c && b) refl (λ _ _. refl) (λ _ _. refl)

-- no comma is among the characters
abbrev pub NoComma : Octets → Type 0
NoComma p = (i : ℕ) → i < length p → get_or p i 0 ≡ 44 → ⊥

-- characters up to a comma are one piece
pub pieces_skip : (p acc r : Octets) → NoComma p → read_pieces acc (p ++ r) ≡ read_pieces (acc ++ p) r
pieces_skip [] acc r n = rw append-nil
pieces_skip (x ∷ xs) acc r n =
    let d = n 0 in
    let e : eqb x 44 ≡ false = grind (arith, nat_tests) in
    let ih = pieces_skip xs (acc ++ x ∷ []) r (λ i h. n (suc i) (omega arith)) in
    rw e (ih ∙ ap (λ t. read_pieces t r) (append_assoc acc (x ∷ []) xs))

-- the pieces between the commas
abbrev pub pieces : Octets → List Octets
pieces s = slice_split (λ b. eqb b 44) s

pub yields_pieces : (s t : Split ℕ) (bs : Octets) → s ≡ t → split_text t ≡ bs → split_has_more t ≡ true → split_pattern t ≡ 44 → YieldsList (split_steps FindsChar (λ a b. b ≡ a)) (λ x. x.now) s (pieces bs)
yields_pieces s t bs e text more mark =
    YieldsList-from_str_split 44 bs (lit< tt) (ap split_text e ∙ text) (ap split_has_more e ∙ more) (ap split_pattern e ∙ mark)

-- the types that pieces stand for
abbrev pub read_all : List Octets → Option (List ℕ)
read_all [] = Some []
read_all (p ∷ ps) = one_more (read_type p) (read_all ps)

-- characters before the first piece
abbrev behind : Octets → List Octets → List Octets
behind acc [] = acc ∷ []
behind acc (p ∷ ps) = (acc ++ p) ∷ ps

behind_first : (acc : Octets) (x : ℕ) (ps : List Octets) → behind acc (onto_first x ps) ≡ behind (acc ++ x ∷ []) ps
behind_first acc x [] = refl
behind_first acc x (p ∷ ps) = ap (λ q. q ∷ ps) (sym (append_assoc acc (x ∷ []) p))

first_stands : (x : ℕ) (ps : List Octets) → behind [] (onto_first x ps) ≡ onto_first x ps
first_stands x [] = refl
first_stands x (p ∷ ps) = refl

behind_nothing : (s : Octets) → behind [] (pieces s) ≡ pieces s
behind_nothing [] = refl
behind_nothing (x ∷ xs) =
    ⊎_elim
    (λ e. rw e)
    (λ e. rw e (first_stands x (pieces xs)))
    (cases_Bool (eqb x 44))

read_behind : (s acc : Octets) → read_pieces acc s ≡ read_all (behind acc (pieces s))
read_behind [] acc = rw (append-nil acc)
read_behind (x ∷ xs) acc =
    ⊎_elim
    (λ e. rw e
    (ap (λ p. one_more (read_type p) (read_pieces [] xs)) (sym (append-nil acc))
    ∙ ap (one_more (read_type (acc ++ []))) (read_behind xs [] ∙ ap read_all (behind_nothing xs))))
    (λ e. rw e (read_behind xs (acc ++ x ∷ []) ∙ ap read_all (sym (behind_first acc x (pieces xs)))))
    (cases_Bool (eqb x 44))

-- the pieces that are left, before the first of them, behind one more and behind the last
pub pieces_none : (s : Octets) (v : List ℕ) (n : ℕ) → v ≡ [] → n ≡ 0 → before v (read_all (drop n (pieces s))) ≡ read_pieces [] s
pieces_none s v n e f =
    rw (e, f) (before_nothing (read_all (pieces s)) ∙ sym (read_behind s [] ∙ ap read_all (behind_nothing s)))

pub pieces_more : (ps : List Octets) (n m : ℕ) (p : Octets) (v w : List ℕ) (t : ℕ) → (n < length ps) × (p ≡ get_or ps n p) → Some t ≡ read_type p → w ≡ v ++ t ∷ [] → m ≡ n + 1 → before w (read_all (drop m ps)) ≡ before v (read_all (drop n ps))
pieces_more ps n m p v w t h r e f =
    let d = at_drop_more read_all ps n p h.0 in
    rw (f, e, d, ← h.1, ← r) (before_more v (t ∷ []) (read_all (drop (n + 1) ps)))

pub pieces_fail : (ps : List Octets) (n : ℕ) (p : Octets) (v : List ℕ) → (n < length ps) × (p ≡ get_or ps n p) → None ≡ read_type p → before v (read_all (drop n ps)) ≡ None
pieces_fail ps n p v h r =
    let d = at_drop_more read_all ps n p h.0 in
    rw (d, ← h.1, ← r)

pub pieces_end : (ps : List Octets) (n : ℕ) (v : List ℕ) → n ≡ length ps → before v (read_all (drop n ps)) ≡ Some v
pieces_end ps n v h = rw (at_drop_all read_all ps n (omega arith)) (ap Some (append-nil v))

-- a text other than `-` is read by its pieces
pub not_dash : (s : Octets) → (s ≡ 45 ∷ [] → ⊥) → read_types s ≡ read_pieces [] s
not_dash s n = rw (apart_from s (45 ∷ []) n)
