-- Strings compared octet by octet.
use Rattle.std.specs.Prelude.{◌≡◌, ℕ, ◌≤◌, length, nat_eq, refl}
use Rattle.std.specs.declared.cmp.Ordering.TheVariants.{Equal}
use Rattle.std.proofs.Common.{lit≤, sym, ◌∙◌, arith}
use Rattle.std.proofs.lemmas.List.{nil_from_length}
use Rattle.std.proofs.lemmas.Bool.{eqb-true}
use Rattle.names.proofs.Ordered.{octets_total}
use Rattle.names.specs.Canonical.{by_octets}
use Rattle.names.specs.Laws.{StrictTotal}
use Rattle.names.specs.Wire.{Octets}
use Rattle.orders.specs.Ring.{Ring}

-- the empty string alone
pub one_ring : Ring (λ p. nat_eq (length p) 0) (λ _ _. Equal)
one_ring = record {
  itself = λ a p. refl;
  same = λ a b p q e. nil_from_length a (eqb-true (length a) 0 p) ∙ sym (nil_from_length b (eqb-true (length b) 0 q));
  greater = λ a b p q e. absurd (let z : ◌≡◌ {A = ℕ} 0 1 = cc in omega arith);
  less = λ a b p q e. absurd (let z : ◌≡◌ {A = ℕ} 0 1 = cc in omega arith);
  transitive = λ a b c p q r e f. e;
}

-- turned around it is one again
pub turned_total : StrictTotal (λ (a b : Octets). by_octets b a)
turned_total = record {
  itself = λ a. octets_total.itself a;
  same = λ a b e. sym (octets_total.same b a e);
  greater = λ a b e. octets_total.greater b a e;
  less = λ a b e. octets_total.less b a e;
  transitive = λ a b c e f. octets_total.transitive c b a f e;
}

pub none_fit : 0 ≤ 255
none_fit = lit≤ tt

pub one_fits : 1 ≤ 255
one_fits = lit≤ tt
