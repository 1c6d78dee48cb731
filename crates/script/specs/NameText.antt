-- Names as text. A text is a list of octets.
--
-- A name is its labels, each followed by a dot; the root is a dot alone. In a label a letter, a digit, `-`, `_` and `*`
-- stand for themselves, and `\` with three decimal digits for the octet of that value.
-- `=` with pairs of hexadecimal digits stands for these octets, a name or not.
use Rattle.std.specs.Prelude.{ℕ, ◌+◌, ◌-◌, ◌*◌, ◌/◌, ◌%◌, Bool, true, cond, ◌&&◌, ◌||◌, [], ◌∷◌, ◌++◌, length, Some, None, Option, ◌==◌, nat_le}
use Rattle.names.specs.Wire.{Octets, Label, Labels, none}

-- c is one of the characters from low to high
abbrev pub within : ℕ → ℕ → ℕ → Bool
within low high c = nat_le low c && nat_le c high

-- `0` to `9`
abbrev pub is_digit : ℕ → Bool
is_digit c = within 48 57 c

-- a letter in lower case, a digit, `-`, `_` or `*`: printed as itself
abbrev pub is_shown : ℕ → Bool
is_shown c = within 97 122 c || (is_digit c || (c == 45 || (c == 95 || c == 42)))

-- read as itself: besides, a letter in upper case
abbrev pub is_plain : ℕ → Bool
is_plain c = is_shown c || within 65 90 c

-- the number that three digits write
abbrev pub decimal3 : ℕ → ℕ → ℕ → ℕ
decimal3 a b c = 100 * (a - 48) + (10 * (b - 48) + (c - 48))

-- three digits that write an octet
abbrev pub is_octet3 : ℕ → ℕ → ℕ → Bool
is_octet3 a b c = is_digit a && (is_digit b && (is_digit c && nat_le (decimal3 a b c) 255))

-- octets before those of the rest, if the rest stands for any
abbrev pub before : Octets → Option Octets → Option Octets
before s None = None
before s (Some t) = Some (s ++ t)

-- a label of 1 to 63 octets
abbrev pub is_whole : Label → Bool
is_whole l = nat_le 1 (length l) && nat_le (length l) 63

-- the wire form that labels stand for; `label` has the octets of the label so far
abbrev mutual
  pub read_labels : Label → Octets → Option Octets
  read_labels label [] = cond (none label) (Some (0 ∷ [])) None
  read_labels label (c ∷ cs) =
      cond (c == 46) (cond (is_whole label) (before (length label ∷ label) (read_labels [] cs)) None)
      (cond (c == 92) (read_escape label cs) (cond (is_plain c) (read_labels (label ++ c ∷ []) cs) None))

  -- the same behind a `\`
  pub read_escape : Label → Octets → Option Octets
  read_escape label [] = None
  read_escape label (a ∷ []) = None
  read_escape label (a ∷ b ∷ []) = None
  read_escape label (a ∷ b ∷ c ∷ cs) = cond (is_octet3 a b c) (read_labels (label ++ decimal3 a b c ∷ []) cs) None

-- a hexadecimal digit, in either case
abbrev pub is_hex : ℕ → Bool
is_hex c = is_digit c || (within 65 70 c || within 97 102 c)

abbrev pub hex_value : ℕ → ℕ
hex_value c = cond (nat_le 97 c) (c - 87) (cond (nat_le 65 c) (c - 55) (c - 48))

-- the octets that pairs of hexadecimal digits write
abbrev pub read_hex : Octets → Option Octets
read_hex [] = Some []
read_hex (a ∷ []) = None
read_hex (a ∷ b ∷ cs) = cond (is_hex a && is_hex b) (before ((16 * hex_value a + hex_value b) ∷ []) (read_hex cs)) None

-- the octets that a text stands for
abbrev pub read_name : Octets → Option Octets
read_name [] = None
read_name (c ∷ cs) =
    cond (c == 61) (read_hex cs) (cond (c == 46 && none cs) (Some (0 ∷ [])) (read_labels [] (c ∷ cs)))

-- an octet of a label, printed
abbrev pub octet_text : ℕ → Octets
octet_text x = cond (is_shown x) (x ∷ []) (92 ∷ (48 + x / 100) ∷ (48 + x / 10 % 10) ∷ (48 + x % 10) ∷ [])

abbrev pub label_text : Label → Octets
label_text [] = []
label_text (x ∷ xs) = octet_text x ++ label_text xs

-- labels, printed, each followed by a dot
abbrev pub labels_text : Labels → Octets
labels_text [] = []
labels_text (l ∷ ls) = label_text l ++ 46 ∷ labels_text ls

-- a name, printed
abbrev pub name_text : Labels → Octets
name_text [] = 46 ∷ []
name_text (l ∷ ls) = labels_text (l ∷ ls)

-- every octet is below 256
abbrev pub are_octets : Octets → Bool
are_octets [] = true
are_octets (x ∷ xs) = nat_le x 255 && are_octets xs

-- so is every octet of every label
abbrev pub are_octet_labels : Labels → Bool
are_octet_labels [] = true
are_octet_labels (l ∷ ls) = are_octets l && are_octet_labels ls
