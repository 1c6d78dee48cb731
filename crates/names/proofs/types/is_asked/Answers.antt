use Rattle.std.proofs.Common.{arith}
use Rattle.std.proofs.lemmas.Bool.Decides.{nat_tests}
use Rattle.names.specs.Types.{asked}
use Rattle.names.proofs.types.is_asked.Goals as goal

pub returns-after-matches : goal.returns-after-matches
unfolding asked
returns-after-matches c = grind (arith, nat_tests)

pub returns-else-contains : goal.returns-else-contains
unfolding asked
returns-else-contains c = grind (arith, nat_tests)
