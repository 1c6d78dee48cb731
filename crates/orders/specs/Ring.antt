-- What every order of places promises.
use Rattle.std.specs.Prelude.{◌≡◌, Bool, true}
use Rattle.std.specs.declared.cmp.Ordering.TheVariants.{Less, Equal, Greater}
use Rattle.std.specs.declared.cmp.Ordering.{Ordering}
use Rattle.names.specs.Canonical.{below}
use Rattle.names.specs.Wire.{Octets, Labels, is_labels}

-- The laws of a ring, for strings that are places: of two places exactly one of less, equal and greater holds, which the
-- three cases of an answer say already; less one way is greater the other way; less is transitive; places are equal
-- exactly if they are the same octets.
pub record Ring (is_place : Octets → Bool) (by : Octets → Octets → Ordering) : Type 0 where
  pub itself : (a : Octets) → is_place a ≡ true → by a a ≡ Equal
  pub same : (a b : Octets) → is_place a ≡ true → is_place b ≡ true → by a b ≡ Equal → a ≡ b
  pub greater : (a b : Octets) → is_place a ≡ true → is_place b ≡ true → by a b ≡ Less → by b a ≡ Greater
  pub less : (a b : Octets) → is_place a ≡ true → is_place b ≡ true → by a b ≡ Greater → by b a ≡ Less
  pub transitive : (a b c : Octets) → is_place a ≡ true → is_place b ≡ true → is_place c ≡ true → by a b ≡ Less → by b c ≡ Less → by a c ≡ Less

-- The further laws of an order that keeps families, for places of names: different names have different places; a place
-- is below another as the names are; a name is less than each name below it; and what lies between a name and one below
-- it is itself below it.
pub record Family (place : Labels → Octets) (by : Octets → Octets → Ordering) (beneath : Octets → Octets → Bool) : Type 0 where
  pub apart : (n m : Labels) → is_labels n ≡ true → is_labels m ≡ true → place n ≡ place m → n ≡ m
  pub as_names : (n m : Labels) → is_labels n ≡ true → is_labels m ≡ true → beneath (place n) (place m) ≡ below n m
  pub first : (n m : Labels) → is_labels n ≡ true → is_labels m ≡ true → below m n ≡ true → by (place n) (place m) ≡ Less
  pub between : (n p m : Labels) → is_labels n ≡ true → is_labels p ≡ true → is_labels m ≡ true → below m n ≡ true → by (place n) (place p) ≡ Less → by (place p) (place m) ≡ Less → below p n ≡ true
