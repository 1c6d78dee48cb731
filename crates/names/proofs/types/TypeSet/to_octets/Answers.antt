use Rattle.std.proofs.Common.{refl}
use Rattle.names.specs.Types.{has}
use Rattle.names.proofs.types.TypeSet.to_octets.Goals as goal

pub returns : goal.returns
unfolding has
returns c = record { value = refl; layout = λ t. refl }
