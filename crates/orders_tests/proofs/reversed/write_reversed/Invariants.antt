use Rattle.std.proofs.Common.{◌≡◌, length}
use Rattle.names.specs.View.{octets, labels}
use Rattle.names.specs.Wire.{written}
use Rattle.orders_tests.specs.Reversal.{from_root}
use Rattle.orders_tests.proofs.reversed.write_reversed.Given as goal

abbrev pub invariant-loop-rest : goal.invariant-loop-rest
invariant-loop-rest l = (written (from_root (labels l.left)) l.out ≡ written (from_root (labels l.name)) l.initial.out) × (length l.out ≡ 255)

abbrev pub decreases-loop-rest : goal.decreases-loop-rest
decreases-loop-rest l = length (octets l.left)
