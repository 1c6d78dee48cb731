use Rattle.std.proofs.Common.{arith}
use Rattle.names.specs.Types.{apex_set}
use Rattle.names.proofs.types.TypeSet.allowed_at_apex.Goals as goal

pub returns-then-has-2 : goal.returns-then-has-2
unfolding apex_set
returns-then-has-2 c = grind arith

pub returns-else-has-2 : goal.returns-else-has-2
unfolding apex_set
returns-else-has-2 c = grind arith
