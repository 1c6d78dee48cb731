use Rattle.std.proofs.Common.{arith}
use Rattle.names.specs.Types.{holdable}
use Rattle.names.proofs.types.is_holdable.Goals as goal

pub returns-then-is_asked : goal.returns-then-is_asked
unfolding holdable
returns-then-is_asked c = grind arith

pub returns-else-is_asked : goal.returns-else-is_asked
unfolding holdable
returns-else-is_asked c = grind arith
