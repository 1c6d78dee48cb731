-- The chain of a zone: one record for each recorded name, in canonical order of the names. Everything here takes an order
-- by what it means.
use Rattle.std.specs.Prelude.{ℕ, ◌+◌, Bool, cond, not, ◌&&◌, List, [], ◌∷◌, ◌++◌, map, Some, None, Option, ◌==◌}
use Rattle.std.specs.declared.cmp.Ordering.{Ordering}
use Rattle.std.specs.Ordering.{is_lt}
use Rattle.names.specs.Canonical.{same_name, at_or_below}
use Rattle.names.specs.Types.{Words, with}
use Rattle.names.specs.Wire.{Octets, Labels, same_octets}
use Rattle.books.specs.Held.{Held, less}
use Rattle.model.specs.Zones.{is_held, types_at, is_unsigned_cut}

-- what an order means: a place for each name, which strings are places, how two compare, whether the order keeps
-- families, and which place is below which
pub record Meaning : Type 0 where
  pub place : Labels → Octets
  pub placed : Octets → Bool
  pub compared : Octets → Octets → Ordering
  pub families : Bool
  pub beneath : Octets → Octets → Bool

abbrev pub lesser : Meaning → Octets → Octets → Bool
lesser o p q = is_lt (o.compared p q)

-- a record: the place of its owner, the next place of the ring, the types at the owner, and the zone's flag (opt-out)
pub record Record : Type 0 where
  pub owner : Octets
  pub next : Octets
  pub types : Words
  pub flag : ℕ

-- a name and its ancestors, as far as they are at or below the apex
abbrev pub upward : Labels → Labels → List Labels
upward apex [] = cond (at_or_below [] apex) ([] ∷ []) []
upward apex (l ∷ ls) = cond (at_or_below (l ∷ ls) apex) ((l ∷ ls) ∷ upward apex ls) []

-- a name more in a rising list, if it is not there
abbrev pub with_name : Labels → List Labels → List Labels
with_name n [] = n ∷ []
with_name n (m ∷ ms) = cond (same_name n m) (m ∷ ms) (cond (less n m) (n ∷ m ∷ ms) (m ∷ with_name n ms))

abbrev pub with_names : List Labels → List Labels → List Labels
with_names [] ms = ms
with_names (n ∷ ns) ms = with_name n (with_names ns ms)

-- all names that stand, in canonical order
abbrev pub standing : Labels → Held → List Labels
standing apex [] = []
standing apex (e ∷ es) = with_names (upward apex e.0) (standing apex es)

-- an unsigned cut that opt-out leaves out
abbrev pub left_out : Meaning → ℕ → Labels → Labels → Held → Bool
left_out o flag apex n hs = not o.families && (flag == 1 && is_unsigned_cut apex n hs)

abbrev pub kept : Meaning → ℕ → Labels → Held → List Labels → List Labels
kept o flag apex hs [] = []
kept o flag apex hs (n ∷ ns) = cond (left_out o flag apex n hs) (kept o flag apex hs ns) (n ∷ kept o flag apex hs ns)

-- the charted names: those whose absence a chain must never claim
abbrev pub charted : Meaning → ℕ → Labels → Held → List Labels
charted o flag apex hs = kept o flag apex hs (standing apex hs)

-- the recorded names: with families the held names, without families the charted ones
abbrev pub held_names : Held → List Labels
held_names hs = map (λ e. e.0) hs

abbrev pub recorded : Meaning → ℕ → Labels → Held → List Labels
recorded o flag apex hs = cond o.families (held_names hs) (charted o flag apex hs)

-- the types in the record of a name: RRSIG (46) and with families NSEC (47) besides those held; without families no 46
-- where nothing is signed, at a name that is not held and at an unsigned cut
abbrev pub record_types : Meaning → Labels → Labels → Held → Words
record_types o apex n hs =
    cond o.families (with (with (types_at n hs) 46) 47)
    (cond (is_held n hs && not (is_unsigned_cut apex n hs)) (with (types_at n hs) 46) (types_at n hs))

-- the lesser of a place and the best so far
abbrev pub better : Meaning → Octets → Option Octets → Option Octets
better o p None = Some p
better o p (Some q) = cond (lesser o q p) (Some q) (Some p)

abbrev pub least : Meaning → List Octets → Option Octets
least o [] = None
least o (p ∷ ps) = better o p (least o ps)

abbrev pub least_after : Meaning → Octets → List Octets → Option Octets
least_after o q [] = None
least_after o q (p ∷ ps) = cond (lesser o q p) (better o p (least_after o q ps)) (least_after o q ps)

abbrev pub or_else : Octets → Option Octets → Octets
or_else p None = p
or_else p (Some q) = q

-- the next place of the ring: the least that is greater, or where none is, the least of all
abbrev pub next_place : Meaning → Octets → List Octets → Octets
next_place o p ps = or_else (or_else p (least o ps)) (least_after o p ps)

abbrev pub places : Meaning → List Labels → List Octets
places o ns = map o.place ns

abbrev pub record_of : Meaning → ℕ → Labels → Held → List Octets → Labels → Record
record_of o flag apex hs ps n = record {
  owner = o.place n;
  next = next_place o (o.place n) ps;
  types = record_types o apex n hs;
  flag = flag;
}

abbrev pub chain_of : Meaning → ℕ → Labels → Held → List Record
chain_of o flag apex hs = map (record_of o flag apex hs (places o (recorded o flag apex hs))) (recorded o flag apex hs)

-- the index of the first place that is p, counted from i
abbrev pub index_from : ℕ → Octets → List Octets → Option ℕ
index_from i p [] = None
index_from i p (q ∷ qs) = cond (same_octets p q) (Some i) (index_from (i + 1) p qs)

abbrev pub pair_with : ℕ → Option ℕ → Option (ℕ × ℕ) → Option (ℕ × ℕ)
pair_with j None o = o
pair_with j (Some i) o = Some (i, j)

-- two names of one place: the earliest that shares with an earlier one, and that one, by their indices, the smaller
-- first; `seen` has the places before index j
abbrev pub clash_from : List Octets → ℕ → List Octets → Option (ℕ × ℕ)
clash_from seen j [] = None
clash_from seen j (p ∷ ps) = pair_with j (index_from 0 p seen) (clash_from (seen ++ (p ∷ [])) (j + 1) ps)

abbrev pub clash : Meaning → ℕ → Labels → Held → Option (ℕ × ℕ)
clash o flag apex hs = clash_from [] 0 (places o (charted o flag apex hs))
