-- Canonical order (RFC 4034 section 6.1), ancestors, and the labels that two names share.
use Rattle.std.specs.Prelude.{ℕ, suc, Bool, false, cond, ◌||◌, [], ◌∷◌, reverse}
use Rattle.std.specs.Cmp.Lexicographic.{slice_cmp, pointwise}
use Rattle.std.specs.Ordering.{nat_cmp}
use Rattle.std.specs.declared.cmp.Ordering.{Ordering}
use Rattle.names.specs.Wire.{Octets, Labels, same_octets}

-- two labels, as unsigned octets: the first two that differ decide, and a label that ends first is less
abbrev pub by_octets : Octets → Octets → Ordering
by_octets a b = slice_cmp nat_cmp a b

-- two names, by their labels from the right
unfoldable pub canonical : Labels → Labels → Ordering
canonical a b = slice_cmp by_octets (reverse a) (reverse b)

-- two names are the same
abbrev pub same_name : Labels → Labels → Bool
same_name n m = pointwise same_octets n m

-- n is below m, and m an ancestor of n: n's labels end in all of m's, and n has more
abbrev pub below : Labels → Labels → Bool
below [] m = false
below (l ∷ ls) m = same_name ls m || below ls m

abbrev pub at_or_below : Labels → Labels → Bool
at_or_below n m = same_name n m || below n m

-- how many labels two lists have in common at their front
abbrev pub common : Labels → Labels → ℕ
common [] ys = 0
common (x ∷ xs) [] = 0
common (x ∷ xs) (y ∷ ys) = cond (same_octets x y) (suc (common xs ys)) 0

-- how many labels two names share, counted from the root
unfoldable pub shared : Labels → Labels → ℕ
shared a b = common (reverse a) (reverse b)
