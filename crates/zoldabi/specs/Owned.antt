-- What a name that owns its octets means.
use Rattle.names.specs.Wire.{Octets, Labels, labels_of}
use Rattle.zoldabi.specs.declared.owned.OwnedName.{OwnedName}

abbrev pub octets_owned : OwnedName → Octets
octets_owned o = o.octets.items

abbrev pub labels_owned : OwnedName → Labels
labels_owned o = labels_of (octets_owned o)
