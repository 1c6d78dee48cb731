-- Strings compared octet by octet.
use Rattle.std.specs.Prelude.{Bool}
use Rattle.std.specs.declared.cmp.Ordering.{Ordering}
use Rattle.names.specs.Laws.{StrictTotal}
use Rattle.names.specs.Wire.{Octets}
use Rattle.orders.specs.Ring.{Ring}

-- a strict total order of all strings is one of any places
pub total_ring : (is_place : Octets → Bool) (by : Octets → Octets → Ordering) → StrictTotal by → Ring is_place by
total_ring is_place by t = record {
  itself = λ a p. t.itself a;
  same = λ a b p q e. t.same a b e;
  greater = λ a b p q e. t.greater a b e;
  less = λ a b p q e. t.less a b e;
  transitive = λ a b c p q r e f. t.transitive a b c e f;
}
