-- What follows from the definitions of names and their order.
use Rattle.std.specs.Prelude.{◌≡◌, true, map, Some}
use Rattle.std.specs.declared.cmp.Ordering.TheVariants.{Less, Equal, Greater}
use Rattle.std.specs.declared.cmp.Ordering.{Ordering}
use Rattle.names.specs.Wire.{Octets, Labels, lower, wire, parse, is_labels}
use Rattle.names.specs.Canonical.{canonical, below}

-- `wire` and `parse` undo each other: of a name its wire form reads back as that name, and what octets read as has
-- them, in lower case, as its wire form
pub record WireAndParse : Type 0 where
  pub parse_wire : (n : Labels) → is_labels n ≡ true → parse (wire n) ≡ Some n
  pub wire_parse : (s : Octets) (n : Labels) → parse s ≡ Some n → (is_labels n ≡ true) × (wire n ≡ map lower s)

-- a comparison that is a strict total order
pub record StrictTotal {X : Type 0} (by : X → X → Ordering) : Type 0 where
  pub itself : (a : X) → by a a ≡ Equal
  pub same : (a b : X) → by a b ≡ Equal → a ≡ b
  pub greater : (a b : X) → by a b ≡ Less → by b a ≡ Greater
  pub less : (a b : X) → by a b ≡ Greater → by b a ≡ Less
  pub transitive : (a b c : X) → by a b ≡ Less → by b c ≡ Less → by a c ≡ Less

-- canonical order keeps the names below a name together, right behind it: a name is less than each name below it, and
-- what lies between a name and one below it is itself below it
pub record Families : Type 0 where
  pub below_greater : (n m : Labels) → below n m ≡ true → canonical m n ≡ Less
  pub between_below : (n p m : Labels) → below m n ≡ true → canonical n p ≡ Less → canonical p m ≡ Less → below p n ≡ true
