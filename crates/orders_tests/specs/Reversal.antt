-- Names from the root on.
use Rattle.std.specs.Prelude.{Bool, true, false, ◌&&◌, [], ◌∷◌, ◌++◌, reverse, length, ◌==◌}
use Rattle.names.specs.Wire.{Octets, Labels}

-- each label behind its length
abbrev pub pieces : Labels → Octets
pieces [] = []
pieces (l ∷ ls) = length l ∷ (l ++ pieces ls)

-- the labels of a name from the right, each behind its length
abbrev pub from_root : Labels → Octets
from_root n = pieces (reverse n)

-- a begins with all of b and goes on after it
abbrev pub goes_on : Octets → Octets → Bool
goes_on [] b = false
goes_on (x ∷ xs) [] = true
goes_on (x ∷ xs) (y ∷ ys) = x == y && goes_on xs ys
