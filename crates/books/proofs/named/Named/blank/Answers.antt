use Rattle.std.proofs.Common.{arith}
use Rattle.books.proofs.Storing.{root_name}
use Rattle.books.proofs.named.Named.blank.Goals as goal

pub invariant_of-result : goal.invariant_of-result
invariant_of-result c = record { fits = omega arith; name = root_name }
