-- Record types and sets of them.
--
-- A type is a number below 65536. A set of types is a list of words, one octet each, as many as `width` says:
-- type t is the mask 128 shifted right by t mod 8, in word t div 8.
use Rattle.std.specs.Prelude.{ℕ, ◌*◌, ◌/◌, ◌%◌, ◌^◌, Bool, cond, not, ◌&&◌, ◌||◌, List, replicate, ◌==◌, bit_and, bit_or, nat_le, slice_index, slice_set}
use Rattle.std.specs.List.{list_all, list_any, range_with_len}
use Rattle.names.specs.Canonical.{same_name}
use Rattle.names.specs.Wire.{Label, Labels, same_octets, star}

abbrev pub Words : Type 0
Words = List ℕ

-- how many words a set has
abbrev pub width : ℕ
width = 16

-- how many types a set has room for
abbrev pub room : ℕ
room = 8 * width

-- where type t lies: the word, and the bit in it
abbrev pub word_of : ℕ → ℕ
word_of t = t / 8

abbrev pub mask_of : ℕ → ℕ
mask_of t = 128 / 2 ^ (t % 8)

-- the set holds t
unfoldable pub has : Words → ℕ → Bool
has ws t = not (bit_and (slice_index ws (word_of t)) (mask_of t) == 0)

-- the set with t besides; a type that a set has no room for leaves it as it is
unfoldable pub with : Words → ℕ → Words
with ws t = slice_set ws (word_of t) (bit_or (slice_index ws (word_of t)) (mask_of t))

-- the set of no type
abbrev pub no_types : Words
no_types = replicate width 0

-- a type that may be asked for: 1 to 127, but for OPT (41), RRSIG (46), NSEC (47) and NSEC3 (50)
unfoldable pub asked : ℕ → Bool
asked t = nat_le 1 t && (nat_le t 127 && not (t == 41 || (t == 46 || (t == 47 || t == 50))))

-- a type that a name may hold: the asked ones, but for DNAME (39)
unfoldable pub holdable : ℕ → Bool
holdable t = asked t && not (t == 39)

-- no word has a bit
abbrev pub empty : Words → Bool
empty ws = list_all (λ w. w == 0) ws

-- each type of the set may be held
unfoldable pub only_holdable : Words → Bool
only_holdable ws = list_all (λ t. not (has ws t) || holdable t) (range_with_len 0 room)

-- NS (2) alone: what an unsigned zone cut holds
unfoldable pub unsigned_cut : Words → Bool
unsigned_cut ws = same_octets ws (with no_types 2)

-- NS (2) and DS (43): what a signed zone cut holds
unfoldable pub signed_cut : Words → Bool
signed_cut ws = same_octets ws (with (with no_types 2) 43)

-- a set that an apex may hold: NS (2) and SOA (6), not DS (43), and what else may be held
unfoldable pub apex_set : Words → Bool
apex_set ws = only_holdable ws && (has ws 2 && (has ws 6 && not (has ws 43)))

-- the label is `*`
abbrev pub is_star : Label → Bool
is_star l = same_octets l star

-- the label `*` stands somewhere in the name
abbrev pub starred : Labels → Bool
starred n = list_any is_star n

-- what a zone cut holds
abbrev pub cut_set : Words → Bool
cut_set ws = unsigned_cut ws || signed_cut ws

-- some types that may be held, SOA (6) and DS (43) not among them
abbrev pub plain_set : Words → Bool
plain_set ws = not (empty ws) && (only_holdable ws && (not (has ws 6) && not (has ws 43)))

-- a set that a name other than the apex may hold: with NS (2) it is that of a zone cut, and no label of the name is `*`
abbrev pub inner_set : Labels → Words → Bool
inner_set n ws = cond (has ws 2) (cut_set ws && not (starred n)) (plain_set ws)

-- the set is none that the name may hold in a zone with this apex
abbrev pub rule_broken : Labels → Labels → Words → Bool
rule_broken apex n ws = not (cond (same_name n apex) (apex_set ws) (inner_set n ws))
