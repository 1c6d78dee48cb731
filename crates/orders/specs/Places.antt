-- Places of names.
use Rattle.std.specs.Prelude.{ℕ, zero, suc, Bool, cond, ◌&&◌, ◌++◌}
use Rattle.std.specs.declared.cmp.Ordering.TheVariants.{Equal}
use Rattle.std.specs.declared.cmp.Ordering.{Ordering}
use Rattle.names.specs.Canonical.{canonical, below}
use Rattle.names.specs.Wire.{Octets, Labels, is_name, labels_of, lower_octets, written}

-- a buffer once the place of a name was written to its front, as it was where the octets are no name
abbrev pub place_written : (Labels → Octets) → Octets → Octets → Octets
place_written place s out = cond (is_name s) (written (place (labels_of s)) out) out

-- a name's wire form in lower case
abbrev pub is_lower_name : Octets → Bool
is_lower_name p = is_name p && lower_octets p

-- canonical order of two names in wire form; other strings are equal
abbrev pub by_names : Octets → Octets → Ordering
by_names a b = cond (is_name a && is_name b) (canonical (labels_of a) (labels_of b)) Equal

abbrev pub below_names : Octets → Octets → Bool
below_names a b = (is_name a && is_name b) && below (labels_of a) (labels_of b)

-- step 0 is the digest of x and the salt, each further step that of the last result and the salt (RFC 5155 section 5)
abbrev pub iterated : (Octets → Octets) → Octets → Octets → ℕ → Octets
iterated hash salt x zero = hash (x ++ salt)
iterated hash salt x (suc k) = hash (iterated hash salt x k ++ salt)
