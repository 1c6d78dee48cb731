-- Small zones, and what is answered there.
use Rattle.std.specs.Prelude.{◌≡◌, ℕ, true, false, cond, List, [], ◌∷◌, length, Some, None, Ok, Err, codes, Option, Result, ◌==◌}
use Rattle.std.specs.List.{slice_get}
use Rattle.names.specs.Canonical.{by_octets}
use Rattle.names.specs.Types.{Words, with, no_types}
use Rattle.names.specs.Wire.{Octets, Labels, wire, star}
use Rattle.names.specs.declared.refusal.Refusal.{Refusal}
use Rattle.names.specs.declared.refusal.Refusal.TheVariants.{CrossesCut, DsAtApex, SharedPlace, PlaceTaken}
use Rattle.books.specs.Held.{Held, one_each}
use Rattle.digests.specs.Sums.{byte_sum}
use Rattle.orders.specs.Places.{is_lower_name, by_names, below_names, iterated}
use Rattle.model.specs.Asks.{Answer, status_number, ask_answer}
use Rattle.model.specs.Chains.{Meaning, Record, chain_of}
use Rattle.model.specs.Edits.{add_answer, seal_answer}
use Rattle.model.specs.Judges.{Pass, pass_number, judge_answer}

-- canonical order, and the salted order over the sum of octets with no salt and no further iteration
abbrev pub canonical_order : Meaning
canonical_order = record { place = wire; placed = is_lower_name; compared = by_names; families = true; beneath = below_names }

abbrev pub sum_order : Meaning
sum_order = record {
  place = λ n. iterated byte_sum [] (wire n) 0;
  placed = λ p. (length p == 1);
  compared = by_octets;
  families = false;
  beneath = λ _ _. false;
}

-- names below t, and sets
abbrev pub t : Labels
t = codes "t" ∷ []

abbrev pub at : Octets → Labels
at l = l ∷ t

abbrev pub set1 : ℕ → Words
set1 x = with no_types x

abbrev pub set2 : ℕ → ℕ → Words
set2 x y = with (with no_types x) y

-- t {2, 6}, a.t {1}, d.t {2}, e.t {2, 43}, *.w.t {16}
abbrev pub zone : Held
zone =
    (t, set2 2 6) ∷ (at (codes "a"), set1 1) ∷ (at (codes "d"), set1 2) ∷ (at (codes "e"), set2 2 43) ∷ (star ∷ at (codes "w"), set1 16) ∷ []

-- t {2, 6}, ab.t {1}, and with ba.t {1}; t {2, 6}, d.t {2}
abbrev pub one : Held
one = (t, set2 2 6) ∷ (at (codes "ab"), set1 1) ∷ []

abbrev pub two : Held
two = (t, set2 2 6) ∷ (at (codes "ab"), set1 1) ∷ (at (codes "ba"), set1 1) ∷ []

abbrev pub delegated : Held
delegated = (t, set2 2 6) ∷ (at (codes "d"), set1 2) ∷ []

-- records by their indices
abbrev pub put : Option Record → List Record → List Record
put None rs = rs
put (Some r) rs = r ∷ rs

abbrev pub picked : List Record → List ℕ → List Record
picked rs [] = []
picked rs (i ∷ is) = put (slice_get rs i) (picked rs is)

abbrev pub number : Result Pass Refusal → ℕ
number (Ok p) = pass_number p
number (Err e) = 0

-- status, label count, the judge's answer to them (0 where nothing is denied), and the records by their indices
abbrev pub Outcome : Type 0
Outcome = Result (ℕ × (ℕ × (ℕ × List ℕ))) Refusal

abbrev pub judged : Meaning → List Record → Labels → ℕ → Result Answer Refusal → Outcome
judged o rs q x (Ok a) =
    Ok (status_number a.0, (a.1.0, (cond (status_number a.0 == 0) 0 (number (judge_answer o (wire t) (wire q) x (status_number a.0) a.1.0 (picked rs a.1.1))), a.1.1)))
judged o rs q x (Err e) = Err e

-- a question for type x at q, in a zone that is sealed with this flag
abbrev pub asks : Meaning → ℕ → Held → Labels → ℕ → Outcome
asks o flag hs q x = judged o (chain_of o flag t hs) q x (ask_answer o flag t hs true (chain_of o flag t hs) 3 (wire q) x)

abbrev pub says : ℕ → ℕ → ℕ → List ℕ → Outcome
says s k j is = Ok (s, (k, (j, is)))

pub record Examples : Type 0 where
  pub add_below_cut : add_answer t 9 one_each zone (wire (codes "x" ∷ at (codes "d"))) (set1 1) ≡ Err CrossesCut
  pub no_name : asks canonical_order 0 zone (at (codes "b")) 1 ≡ says 1 1 1 (1 ∷ 0 ∷ [])
  pub empty_non_terminal : asks canonical_order 0 zone (at (codes "w")) 1 ≡ says 2 2 1 (3 ∷ [])
  pub wildcard : asks canonical_order 0 zone (codes "q" ∷ at (codes "w")) 16 ≡ says 3 2 1 (4 ∷ [])
  pub wildcard_no_data : asks canonical_order 0 zone (codes "q" ∷ at (codes "w")) 1 ≡ says 4 2 1 (4 ∷ [])
  pub ask_below_cut : asks canonical_order 0 zone (codes "x" ∷ at (codes "d")) 1 ≡ says 5 2 1 (2 ∷ [])
  pub no_ds : asks canonical_order 0 zone (at (codes "d")) 43 ≡ says 2 2 1 (2 ∷ [])
  pub ask_at_signed_cut : asks canonical_order 0 zone (at (codes "e")) 1 ≡ says 6 2 0 []
  pub answered : asks canonical_order 0 zone (at (codes "a")) 1 ≡ says 0 2 0 []
  pub ds_at_apex : asks canonical_order 0 zone t 43 ≡ Err DsAtApex
  pub clash : seal_answer sum_order 0 t two 9 ≡ Err (SharedPlace 1 2)
  pub taken : asks sum_order 0 one (at (codes "ba")) 1 ≡ Err (PlaceTaken 1)
  pub opt_out_no_ds : asks sum_order 1 delegated (at (codes "d")) 43 ≡ says 2 2 2 (0 ∷ [])
  pub opt_out_no_name : asks sum_order 1 delegated (at (codes "b")) 1 ≡ says 1 1 2 (0 ∷ [])
