use Rattle.std.proofs.Common.{◌≡◌, drop}
use Rattle.names.specs.Wire.{after_labels}
use Rattle.names.specs.View.{octets, labels}
use Rattle.names.proofs.name.Name.without.Given as goal

abbrev pub invariant-loop : goal.invariant-loop
invariant-loop l = (labels l.name ≡ drop l.counter (labels l.self)) × (octets l.name ≡ after_labels l.counter (octets l.self))
