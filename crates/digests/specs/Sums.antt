use Rattle.std.specs.Prelude.{ℕ, ◌%◌, List, [], ◌∷◌, sum}

-- one octet: the sum of all octets mod 256
abbrev pub byte_sum : List ℕ → List ℕ
byte_sum xs = sum xs % 256 ∷ []
