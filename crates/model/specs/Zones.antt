-- A zone: an apex, and the names that it holds with their types, one list, rising in canonical order.
use Rattle.std.specs.Prelude.{ℕ, Bool, true, false, cond, not, ◌&&◌, ◌||◌, [], ◌∷◌, is_some, Some, None, Option}
use Rattle.names.specs.Canonical.{same_name, below, at_or_below}
use Rattle.names.specs.Types.{Words, has, no_types, rule_broken, unsigned_cut}
use Rattle.names.specs.Wire.{Labels}
use Rattle.books.specs.Held.{Entry, Held, entry_of}

abbrev pub is_held : Labels → Held → Bool
is_held n hs = is_some (entry_of n hs)

abbrev pub types_in : Option Entry → Words
types_in None = no_types
types_in (Some e) = e.1

-- the types of a name, none where it is not held
abbrev pub types_at : Labels → Held → Words
types_at n hs = types_in (entry_of n hs)

-- a set of types answers a question for type t
abbrev pub answers : Words → ℕ → Bool
answers ws t = has ws t

-- a held name is below n
abbrev pub some_below : Labels → Held → Bool
some_below n [] = false
some_below n (e ∷ es) = below e.0 n || some_below n es

-- a name stands, that is, it exists in the sense of RFC 4592: it is held, or a held name is below it
abbrev pub stands : Labels → Labels → Held → Bool
stands apex n hs = at_or_below n apex && (is_held n hs || some_below n hs)

-- types that make a name a zone cut, which the apex never is
abbrev pub is_cut_set : Labels → Labels → Words → Bool
is_cut_set apex n ws = not (same_name n apex) && has ws 2

abbrev pub is_cut : Labels → Labels → Held → Bool
is_cut apex n hs = is_cut_set apex n (types_at n hs)

abbrev pub is_unsigned_cut : Labels → Labels → Held → Bool
is_unsigned_cut apex n hs = is_cut apex n hs && unsigned_cut (types_at n hs)

abbrev pub is_signed_cut : Labels → Labels → Held → Bool
is_signed_cut apex n hs = is_cut apex n hs && not (unsigned_cut (types_at n hs))

-- the cut that a name is, or is below
abbrev pub cut_over : Labels → Labels → Held → Option Labels
cut_over apex n [] = None
cut_over apex n (e ∷ es) = cond (is_cut_set apex e.0 e.1 && at_or_below n e.0) (Some e.0) (cut_over apex n es)

-- a cut is above n
abbrev pub below_cut : Labels → Labels → Held → Bool
below_cut apex n [] = false
below_cut apex n (e ∷ es) = (is_cut_set apex e.0 e.1 && below n e.0) || below_cut apex n es

-- a name with these types would lie below a cut, or be a cut above a held name
abbrev pub crosses_cut : Labels → Labels → Words → Held → Bool
crosses_cut apex n ws hs = below_cut apex n hs || (is_cut_set apex n ws && some_below n hs)

-- each of the names es may be held in the zone that holds hs
abbrev pub all_allowed : Labels → Held → Held → Bool
all_allowed apex hs [] = true
all_allowed apex hs (e ∷ es) =
    (at_or_below e.0 apex && (not (rule_broken apex e.0 e.1) && not (below_cut apex e.0 hs))) && all_allowed apex hs es

-- the names held are a zone's: the apex is held, and each name keeps the rules
abbrev pub is_zone : Labels → Held → Bool
is_zone apex hs = is_held apex hs && all_allowed apex hs hs
