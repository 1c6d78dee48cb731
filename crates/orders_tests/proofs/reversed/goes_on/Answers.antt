use Rattle.std.proofs.Common.{suc, length, ◌∙◌, arith}
use Rattle.std.proofs.lemmas.Bool.{lt-leb}
use Rattle.orders_tests.specs.Pieces.{goes_on_found, goes_on_short}
use Rattle.orders_tests.proofs.reversed.goes_on.Goals as goal

pub returns-then-a-b : goal.returns-then-a-b
returns-then-a-b c = goes_on_found c.args.a.now c.args.b.now c.starts_with.result c.if-a-b.true c.starts_with.ensures.value

pub returns-else-a-b : goal.returns-else-a-b
returns-else-a-b c = lt-leb (suc (length c.args.b.now)) (length c.args.a.now) (let h = c.if-a-b.false in omega arith) ∙ goes_on_short c.args.a.now c.args.b.now c.if-a-b.false
