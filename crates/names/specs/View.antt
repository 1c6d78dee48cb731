-- What the values of the code mean.
use Rattle.std.specs.Prelude.{Option, Result}
use Rattle.std.specs.Option.{option_map}
use Rattle.std.specs.Result.{result_ok}
use Rattle.names.specs.declared.name.Name.{Name}
use Rattle.names.specs.declared.refusal.Refusal.{Refusal}
use Rattle.names.specs.Wire.{Octets, Labels, labels_of}

-- the octets that a name is read from
abbrev pub octets : Name → Octets
octets n = n.octets.now

-- the labels of a name
abbrev pub labels : Name → Labels
labels n = labels_of (octets n)

-- the octets and the labels of the name that a reader answers, or none
abbrev pub read_octets : Result Name Refusal → Option Octets
read_octets r = option_map octets (result_ok r)

abbrev pub read_labels : Result Name Refusal → Option Labels
read_labels r = option_map labels (result_ok r)
