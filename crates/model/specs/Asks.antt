-- What is answered to a question: a status, a label count, and the records that show it.
use Rattle.std.specs.Prelude.{ℕ, ◌+◌, ◌-◌, Bool, false, cond, not, ◌&&◌, ◌||◌, List, [], ◌∷◌, ◌++◌, map, reverse, length, drop, is_some, Some, None, Ok, Err, Option, Result, ◌==◌, nat_lt}
use Rattle.std.specs.List.{slice_get}
use Rattle.names.specs.Canonical.{same_name, below, at_or_below}
use Rattle.names.specs.Refusals.{of_name}
use Rattle.names.specs.Types.{asked}
use Rattle.names.specs.Wire.{Octets, Labels, star_name}
use Rattle.names.specs.declared.refusal.Refusal.{Refusal}
use Rattle.names.specs.declared.refusal.Refusal.TheVariants.{OutsideZone, NotAskedType, NotSealed, DsAtApex, PlaceTaken, ListTooShort}
use Rattle.books.specs.Held.{Held}
use Rattle.model.specs.Chains.{Meaning, Record, left_out, index_from}
use Rattle.model.specs.Records.{encloses, excludes, tells}
use Rattle.model.specs.Zones.{types_at, answers, stands, is_signed_cut, cut_over}

-- what there is at the name asked for
pub data Status : Type 0 where
  found : Status
  no_name : Status
  no_data : Status
  by_wildcard : Status
  no_data_by_wildcard : Status
  unsigned_referral : Status
  signed_referral : Status

abbrev pub status_number : Status → ℕ
status_number found = 0
status_number no_name = 1
status_number no_data = 2
status_number by_wildcard = 3
status_number no_data_by_wildcard = 4
status_number unsigned_referral = 5
status_number signed_referral = 6

-- the longest standing ancestor of a name, its closest encloser
abbrev pub encloser : Labels → Labels → Held → Labels
encloser apex [] hs = []
encloser apex (l ∷ ls) hs = cond (stands apex ls hs) ls (encloser apex ls hs)

-- the name that has one label more than c toward q: the next closer name
abbrev pub next_closer : Labels → Labels → Labels
next_closer c q = drop (length q - (length c + 1)) q

-- the status, and the name whose labels are counted: the cut, the name itself, or the closest encloser
abbrev pub missing : Labels → Labels → ℕ → Held → Status × Labels
missing apex c t hs =
    cond (answers (types_at (star_name c) hs) t) (by_wildcard, c)
    (cond (stands apex (star_name c) hs) (no_data_by_wildcard, c) (no_name, c))

abbrev pub within : Labels → Labels → ℕ → Held → Status × Labels
within apex q t hs =
    cond (answers (types_at q hs) t) (found, q) (cond (stands apex q hs) (no_data, q) (missing apex (encloser apex q hs) t hs))

abbrev pub referral : Labels → Labels → ℕ → Held → Option Labels → Status × Labels
referral apex q t hs None = within apex q t hs
referral apex q t hs (Some d) =
    cond (below q d || not (t == 43)) (cond (is_signed_cut apex d hs) (signed_referral, d) (unsigned_referral, d)) (within apex q t hs)

abbrev pub status_of : Labels → Labels → ℕ → Held → Status × Labels
status_of apex q t hs = referral apex q t hs (cut_over apex q hs)

-- the names from q up that have more labels than c
abbrev pub longer : Labels → Labels → List Labels
longer c [] = []
longer c (l ∷ ls) = cond (nat_lt (length c) (length (l ∷ ls))) ((l ∷ ls) ∷ longer c ls) []

-- the names that an answer has to exclude, in the order in which they are looked at: those from the next closer name to q,
-- the shortest first, then the star name of c if it does not stand; for a cut that opt-out leaves out, that cut
abbrev pub to_exclude : Meaning → ℕ → Labels → Labels → Held → Status × Labels → List Labels
to_exclude o flag apex q hs (found, b) = []
to_exclude o flag apex q hs (no_name, c) = reverse (longer c q) ++ (star_name c ∷ [])
to_exclude o flag apex q hs (no_data, b) = cond (left_out o flag apex b hs) (b ∷ []) []
to_exclude o flag apex q hs (by_wildcard, c) = reverse (longer c q)
to_exclude o flag apex q hs (no_data_by_wildcard, c) = reverse (longer c q)
to_exclude o flag apex q hs (unsigned_referral, b) = cond (left_out o flag apex b hs) (b ∷ []) []
to_exclude o flag apex q hs (signed_referral, b) = []

abbrev pub or_index : Option ℕ → Option ℕ → Option ℕ
or_index None o = o
or_index (Some i) o = Some i

-- the index of the record that has the place of the first such name
abbrev pub place_taken : Meaning → List Record → List Labels → Option ℕ
place_taken o rs [] = None
place_taken o rs (n ∷ ns) = or_index (index_from 0 (o.place n) (map (λ r. r.owner) rs)) (place_taken o rs ns)

-- the index of the first record that passes a test, counted from i
abbrev pub first_from : (Record → Bool) → ℕ → List Record → Option ℕ
first_from test i [] = None
first_from test i (r ∷ rs) = cond (test r) (Some i) (first_from test (i + 1) rs)

abbrev pub first : (Record → Bool) → List Record → Option ℕ
first test rs = first_from test 0 rs

abbrev pub is_among : ℕ → List ℕ → Bool
is_among i [] = false
is_among i (j ∷ js) = i == j || is_among i js

-- an index more, if it is not there
abbrev pub with_index : Option (List ℕ) → Option ℕ → Option (List ℕ)
with_index None o = None
with_index (Some is) None = None
with_index (Some is) (Some i) = Some (cond (is_among i is) is (is ++ (i ∷ [])))

abbrev pub encloses_at : Meaning → List Record → Labels → Option ℕ → Bool
encloses_at o rs c None = false
encloses_at o rs c (Some i) = test (slice_get rs i)
  where
    test : Option Record → Bool
    test None = false
    test (Some r) = encloses o r c

-- the records that enclose c and exclude n; one where it does both
abbrev pub opening : Meaning → List Record → Labels → Labels → Option (List ℕ)
opening o rs c n =
    with_index
    (cond (encloses_at o rs c (first (λ r. excludes o r n) rs)) (Some []) (with_index (Some []) (first (λ r. encloses o r c) rs)))
    (first (λ r. excludes o r n) rs)

abbrev pub parent_or : Labels → Labels
parent_or [] = []
parent_or (l ∷ ls) = ls

abbrev pub told : Meaning → List Record → Labels → Option ℕ
told o rs m = first (λ r. is_some (tells o r m)) rs

abbrev pub told_or_left_out : Meaning → ℕ → Labels → Held → List Record → Labels → Option (List ℕ)
told_or_left_out o flag apex hs rs b =
    cond (left_out o flag apex b hs) (opening o rs (parent_or b) b) (with_index (Some []) (told o rs b))

-- the records of an answer, by their indices; none where one is missing
abbrev pub evidence : Meaning → ℕ → Labels → Labels → Held → List Record → Status × Labels → Option (List ℕ)
evidence o flag apex q hs rs (found, b) = Some []
evidence o flag apex q hs rs (no_name, c) = with_index (opening o rs c (next_closer c q)) (first (λ r. excludes o r (star_name c)) rs)
evidence o flag apex q hs rs (no_data, b) = told_or_left_out o flag apex hs rs b
evidence o flag apex q hs rs (by_wildcard, c) = with_index (Some []) (first (λ r. excludes o r (next_closer c q)) rs)
evidence o flag apex q hs rs (no_data_by_wildcard, c) = with_index (opening o rs c (next_closer c q)) (told o rs (star_name c))
evidence o flag apex q hs rs (unsigned_referral, b) = told_or_left_out o flag apex hs rs b
evidence o flag apex q hs rs (signed_referral, b) = Some []

-- an answer: status, label count, records by their indices
abbrev pub Answer : Type 0
Answer = Status × (ℕ × List ℕ)

abbrev pub answer_of : Status × Labels → Option (List ℕ) → Result Answer Refusal
answer_of s None = Err NotSealed
answer_of s (Some is) = Ok (s.0, (length s.1, is))

abbrev pub unless_taken : Option ℕ → Result Answer Refusal → Result Answer Refusal
unless_taken None r = r
unless_taken (Some i) r = Err (PlaceTaken i)

-- what ask answers: `rs` are the records of the zone's chain, `room` how many records the answer list takes
abbrev pub ask_answer : Meaning → ℕ → Labels → Held → Bool → List Record → ℕ → Octets → ℕ → Result Answer Refusal
ask_answer o flag apex hs sealed rs room s t =
    of_name s (λ q.
    cond (not (at_or_below q apex)) (Err OutsideZone)
    (cond (not (asked t)) (Err NotAskedType)
    (cond (t == 43 && same_name q apex) (Err DsAtApex)
    (cond (not sealed) (Err NotSealed)
    (cond (nat_lt room 3) (Err ListTooShort)
    (unless_taken (place_taken o rs (to_exclude o flag apex q hs (status_of apex q t hs)))
    (answer_of (status_of apex q t hs) (evidence o flag apex q hs rs (status_of apex q t hs)))))))))
