use Rattle.std.proofs.Common.{arith}
use Rattle.names.proofs.Undo.{name_short}
use Rattle.orders_tests.proofs.few_places.FewPlacesOrder.write_place.Goals as goal

pub overflow_cast-out : goal.overflow_cast-out
overflow_cast-out c = let h = name_short _ c.in_ok-name.name.whole in let b = c.label_count.ensures.bound in omega arith
