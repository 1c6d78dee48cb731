-- Record types as text: a decimal number of 1 to 5 digits, at most 65535, or a mnemonic, in either case.
-- A list of types has commas between them; `-` is the empty list.
use Rattle.std.specs.Prelude.{ℕ, ◌+◌, ◌-◌, ◌*◌, Bool, true, cond, ◌&&◌, List, [], ◌∷◌, ◌++◌, map, length, Some, None, codes, decimal, Option, ◌==◌, nat_le}
use Rattle.std.specs.Char.{to_ascii_lowercase}
use Rattle.names.specs.Wire.{Octets, same_octets}
use Rattle.script.specs.NameText.{is_digit, before}

-- the mnemonics that are read, with their numbers
unfoldable pub mnemonics : List (Octets × ℕ)
mnemonics =
    (codes "A", 1) ∷ (codes "NS", 2) ∷ (codes "CNAME", 5) ∷ (codes "SOA", 6) ∷ (codes "PTR", 12) ∷ (codes "HINFO", 13)
    ∷ (codes "MX", 15) ∷ (codes "TXT", 16) ∷ (codes "AAAA", 28) ∷ (codes "LOC", 29) ∷ (codes "SRV", 33)
    ∷ (codes "NAPTR", 35) ∷ (codes "DNAME", 39) ∷ (codes "OPT", 41) ∷ (codes "DS", 43) ∷ (codes "SSHFP", 44)
    ∷ (codes "RRSIG", 46) ∷ (codes "NSEC", 47) ∷ (codes "DNSKEY", 48) ∷ (codes "NSEC3", 50) ∷ (codes "NSEC3PARAM", 51)
    ∷ (codes "TLSA", 52) ∷ (codes "CDS", 59) ∷ (codes "CDNSKEY", 60) ∷ (codes "SPF", 99) ∷ []

-- the number of a mnemonic
abbrev pub named : Octets → List (Octets × ℕ) → Option ℕ
named s [] = None
named s (m ∷ ms) = cond (same_octets (map to_ascii_lowercase s) (map to_ascii_lowercase m.0)) (Some m.1) (named s ms)

abbrev pub are_digits : Octets → Bool
are_digits [] = true
are_digits (c ∷ cs) = is_digit c && are_digits cs

-- the number that digits write, after the number so far
abbrev pub number_after : ℕ → Octets → ℕ
number_after n [] = n
number_after n (c ∷ cs) = number_after (10 * n + (c - 48)) cs

-- a decimal number that is a type
abbrev pub is_number : Octets → Bool
is_number s = nat_le 1 (length s) && (nat_le (length s) 5 && (are_digits s && nat_le (number_after 0 s) 65535))

-- the type that a text stands for
abbrev pub read_type : Octets → Option ℕ
read_type s = cond (is_number s) (Some (number_after 0 s)) (named s mnemonics)

-- a type before others
abbrev pub one_more : Option ℕ → Option (List ℕ) → Option (List ℕ)
one_more None o = None
one_more (Some t) o = before (t ∷ []) o

-- types with commas between them; `piece` has the characters since the last comma
abbrev pub read_pieces : Octets → Octets → Option (List ℕ)
read_pieces piece [] = one_more (read_type piece) (Some [])
read_pieces piece (c ∷ cs) =
    cond (c == 44) (one_more (read_type piece) (read_pieces [] cs)) (read_pieces (piece ++ c ∷ []) cs)

-- the types that a text stands for
abbrev pub read_types : Octets → Option (List ℕ)
read_types s = cond (same_octets s (codes "-")) (Some []) (read_pieces [] s)

-- types behind a comma each, printed
abbrev pub further_text : List ℕ → Octets
further_text [] = []
further_text (t ∷ ts) = 44 ∷ (decimal t ++ further_text ts)

-- types, printed
abbrev pub types_text : List ℕ → Octets
types_text [] = codes "-"
types_text (t ∷ ts) = decimal t ++ further_text ts

-- every number is below 65536
abbrev pub are_types : List ℕ → Bool
are_types [] = true
are_types (t ∷ ts) = nat_le t 65535 && are_types ts
