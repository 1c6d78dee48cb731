-- How long names are.
use Rattle.std.proofs.Common.{◌≡◌, ℕ, ◌≤◌, true, cond, [], ◌∷◌, length, Some, None, ap, ◌∙◌, arith}
use Rattle.std.proofs.lemmas.List.{length-map}
use Rattle.std.proofs.lemmas.Bool.{cases_Bool}
use Rattle.std.proofs.lemmas.Bool.Decides.{nat_tests}
use Rattle.names.proofs.Reader.{some_same}
use Rattle.names.proofs.Undo.{wire_labels}
use Rattle.names.specs.Wire.{Octets, Labels, is_name, labels_of, lower, wire}

-- a wire form has an octet at least
pub wire_some : (n : Labels) → 1 ≤ length (wire n)
wire_some [] = omega arith
wire_some (l ∷ ls) = omega arith

-- a name is as long as the octets that it was read from
pub wire_long : (s : Octets) → is_name s ≡ true → length (wire (labels_of s)) ≡ length s
wire_long s h = ap length (wire_labels s h).1 ∙ length-map s lower

-- the octets that a name was read from
pub record Read (s octets : Octets) : Type 0 where
  pub name : is_name s ≡ true
  pub all : octets ≡ s

pub as_read : (s octets : Octets) → Some octets ≡ cond (is_name s) (Some s) None → Read s octets
as_read s octets e =
    let k : is_name s ≡ true = (let c = cases_Bool (is_name s) in grind (arith, nat_tests)) in
    record { name = k; all = some_same octets s (rw k at e) }

-- and how many labels it has
pub record Counted (s : Octets) (count : ℕ) : Type 0 where
  pub name : is_name s ≡ true
  pub labels : count ≡ length (labels_of s)

pub as_counted : (s octets : Octets) (count : ℕ) → Some octets ≡ cond (is_name s) (Some s) None → count ≡ length (labels_of octets) → Counted s count
as_counted s octets count e l = let r = as_read s octets e in record { name = r.name; labels = l ∙ ap (λ y. length (labels_of y)) r.all }
