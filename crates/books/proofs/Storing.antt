-- A name in a slot.
use Rattle.std.proofs.Common.{◌≡◌, true, [], ◌∷◌, refl}
use Rattle.names.specs.Wire.{is_name}

pub root_name : is_name (0 ∷ []) ≡ true
unfolding is_name
root_name = refl
