-- What the judge answers, who sees a question, a claim and some records, and neither zone nor book.
use Rattle.std.specs.Prelude.{ℕ, ◌+◌, ◌-◌, Bool, true, false, cond, not, ◌&&◌, ◌||◌, List, [], ◌∷◌, length, drop, Some, None, Ok, Err, Option, Result, ◌==◌, nat_le, nat_lt}
use Rattle.names.specs.Canonical.{same_name, at_or_below}
use Rattle.names.specs.Refusals.{of_name}
use Rattle.names.specs.Types.{Words, has, asked}
use Rattle.names.specs.Wire.{Octets, Labels, star_name}
use Rattle.names.specs.declared.refusal.Refusal.{Refusal}
use Rattle.names.specs.declared.refusal.Refusal.TheVariants.{OutsideZone, NotAskedType, DsAtApex, ClaimNotAllowed, RecordsNotAllowed, NoEncloser, NextCloserNotExcluded, WildcardNotExcluded, TypesNotTold, ToldOtherwise}
use Rattle.model.specs.Asks.{next_closer}
use Rattle.model.specs.Chains.{Meaning, Record}
use Rattle.model.specs.Records.{encloses, excludes, tells}
use Rattle.model.specs.Zones.{answers}

-- the claim holds, or it holds but for what opt-out leaves open
pub data Pass : Type 0 where
  plain : Pass
  opt_out : Pass

abbrev pub pass_number : Pass → ℕ
pass_number plain = 1
pass_number opt_out = 2

-- a flag that a record may have under the order
abbrev pub flag_allowed : Meaning → ℕ → Bool
flag_allowed o f = f == 0 || (f == 1 && not o.families)

-- a record that the judge takes
abbrev pub record_allowed : Meaning → Record → Bool
record_allowed o r = o.placed r.owner && (o.placed r.next && flag_allowed o r.flag)

abbrev pub all_records_allowed : Meaning → List Record → Bool
all_records_allowed o [] = true
all_records_allowed o (r ∷ rs) = record_allowed o r && all_records_allowed o rs

-- a claim is the number of a denial's status; the label count of claim 3 is that of an ancestor of q, that of claim 5 of a
-- name below the apex, q or an ancestor of it
abbrev pub claim_allowed : Labels → Labels → ℕ → ℕ → Bool
claim_allowed apex q claim k =
    (nat_le 1 claim && nat_le claim 5)
    && ((not (claim == 3) || (nat_le (length apex) k && nat_lt k (length q)))
    && (not (claim == 5) || (nat_lt (length apex) k && nat_le k (length q))))

abbrev pub some_encloses : Meaning → List Record → Labels → Bool
some_encloses o [] c = false
some_encloses o (r ∷ rs) c = encloses o r c || some_encloses o rs c

-- the flag of the first record that excludes n
abbrev pub excluded_by : Meaning → List Record → Labels → Option ℕ
excluded_by o [] n = None
excluded_by o (r ∷ rs) n = cond (excludes o r n) (Some r.flag) (excluded_by o rs n)

abbrev pub or_types : Option Words → Option Words → Option Words
or_types None o = o
or_types (Some ws) o = Some ws

-- the types that the first record to tell them tells of m
abbrev pub types_told : Meaning → List Record → Labels → Option Words
types_told o [] m = None
types_told o (r ∷ rs) m = or_types (tells o r m) (types_told o rs m)

-- the longest ancestor of a name, at or below the apex, that some record encloses
abbrev pub enclosed : Meaning → Labels → Labels → List Record → Option Labels
enclosed o apex [] rs = None
enclosed o apex (l ∷ ls) rs = cond (at_or_below ls apex) (cond (some_encloses o rs ls) (Some ls) (enclosed o apex ls rs)) None

-- the encloser of m, and the flag of the first record that excludes the next closer name
abbrev pub closed : Labels → Option ℕ → Result (Labels × ℕ) Refusal
closed c None = Err NextCloserNotExcluded
closed c (Some f) = Ok (c, f)

abbrev pub closed_by : Meaning → List Record → Labels → Option Labels → Result (Labels × ℕ) Refusal
closed_by o rs m None = Err NoEncloser
closed_by o rs m (Some c) = closed c (excluded_by o rs (next_closer c m))

abbrev pub encloser_of : Meaning → Labels → Labels → List Record → Result (Labels × ℕ) Refusal
encloser_of o apex m rs = closed_by o rs m (enclosed o apex m rs)

abbrev pub pass_by : ℕ → Result Pass Refusal
pass_by f = cond (f == 1) (Ok opt_out) (Ok plain)

abbrev pub after : {X : Type 0} → Result X Refusal → (X → Result Pass Refusal) → Result Pass Refusal
after (Ok x) f = f x
after (Err e) f = Err e

abbrev pub unless_none : {X : Type 0} → Refusal → Option X → (X → Result Pass Refusal) → Result Pass Refusal
unless_none e None f = Err e
unless_none e (Some x) f = f x

-- where no record tells the types: only what opt-out leaves out, and then under its flag
abbrev pub untold : Meaning → Labels → Labels → List Record → Result Pass Refusal
untold o apex m rs = after (encloser_of o apex m rs) (λ cf. cond (cf.1 == 0) (Err TypesNotTold) (Ok opt_out))

-- claim 1: neither the name nor the wildcard is there
abbrev pub judge_no_name : Meaning → Labels → Labels → List Record → Result Pass Refusal
judge_no_name o apex q rs =
    after (encloser_of o apex q rs) (λ cf. unless_none WildcardNotExcluded (excluded_by o rs (star_name cf.0)) (λ _. pass_by cf.1))

-- claim 2: the name is there, without the type
abbrev pub judge_told : ℕ → Words → Result Pass Refusal
judge_told t ws = cond (answers ws t || ((has ws 2 && not (has ws 6)) && not (t == 43))) (Err ToldOtherwise) (Ok plain)

abbrev pub judge_no_data_by : Meaning → Labels → Labels → ℕ → List Record → Option Words → Result Pass Refusal
judge_no_data_by o apex q t rs (Some ws) = judge_told t ws
judge_no_data_by o apex q t rs None = cond (t == 43) (untold o apex q rs) (Err TypesNotTold)

-- claim 3: only the wildcard of the ancestor with k labels answers
abbrev pub judge_by_wildcard : Meaning → Labels → ℕ → List Record → Result Pass Refusal
judge_by_wildcard o q k rs = unless_none NextCloserNotExcluded (excluded_by o rs (drop (length q - (k + 1)) q)) pass_by

-- claim 4: the wildcard is there, without the type
abbrev pub judge_no_data_by_wildcard : Meaning → Labels → Labels → ℕ → List Record → Result Pass Refusal
judge_no_data_by_wildcard o apex q t rs =
    after (encloser_of o apex q rs) (λ cf.
    unless_none TypesNotTold (types_told o rs (star_name cf.0)) (λ ws. cond (answers ws t) (Err ToldOtherwise) (pass_by cf.1)))

-- claim 5: the name with k labels is an unsigned cut
abbrev pub judge_cut_by : Meaning → Labels → Labels → List Record → Option Words → Result Pass Refusal
judge_cut_by o apex d rs (Some ws) = cond (has ws 2 && (not (has ws 6) && not (has ws 43))) (Ok plain) (Err ToldOtherwise)
judge_cut_by o apex d rs None = untold o apex d rs

abbrev pub judge_cut : Meaning → Labels → Labels → List Record → Result Pass Refusal
judge_cut o apex d rs = judge_cut_by o apex d rs (types_told o rs d)

abbrev pub judge_claim : Meaning → Labels → Labels → ℕ → ℕ → ℕ → List Record → Result Pass Refusal
judge_claim o apex q t claim k rs =
    cond (claim == 1) (judge_no_name o apex q rs)
    (cond (claim == 2) (judge_no_data_by o apex q t rs (types_told o rs q))
    (cond (claim == 3) (judge_by_wildcard o q k rs)
    (cond (claim == 4) (judge_no_data_by_wildcard o apex q t rs)
    (judge_cut o apex (drop (length q - k) q) rs))))

-- what the judge answers
abbrev pub judge_answer : Meaning → Octets → Octets → ℕ → ℕ → ℕ → List Record → Result Pass Refusal
judge_answer o a s t claim k rs =
    of_name a (λ apex. of_name s (λ q.
    cond (not (at_or_below q apex)) (Err OutsideZone)
    (cond (not (asked t)) (Err NotAskedType)
    (cond (t == 43 && same_name q apex) (Err DsAtApex)
    (cond (not (claim_allowed apex q claim k)) (Err ClaimNotAllowed)
    (cond (nat_lt 8 (length rs) || not (all_records_allowed o rs)) (Err RecordsNotAllowed)
    (judge_claim o apex q t claim k rs)))))))
