use Rattle.std.proofs.Common.{◌≡◌, length}
use Rattle.names.specs.Wire.{ends}
use Rattle.names.proofs.name.Name.read.Given as goal

abbrev pub invariant-loop-rest : goal.invariant-loop-rest
invariant-loop-rest l = ends 0 l.left ≡ ends 0 l.octets

abbrev pub decreases-loop-rest : goal.decreases-loop-rest
decreases-loop-rest l = length l.left
