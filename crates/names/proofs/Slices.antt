-- What the library's lower case says of octets.
use Rattle.std.specs.Char.{to_ascii_lowercase}
use Rattle.std.proofs.Common.{◌≡◌, ℕ, [], ◌∷◌, map, refl, ap₂, arith}
use Rattle.std.proofs.lemmas.Bool.Decides.{nat_tests}
use Rattle.names.specs.Wire.{Octets, lower}

pub ascii_lower : (x : ℕ) → to_ascii_lowercase x ≡ lower x
ascii_lower x = grind (arith, nat_tests)

pub ascii_lower_all : (s : Octets) → map to_ascii_lowercase s ≡ map lower s
ascii_lower_all [] = refl
ascii_lower_all (x ∷ xs) = ap₂ ◌∷◌ (ascii_lower x) (ascii_lower_all xs)
