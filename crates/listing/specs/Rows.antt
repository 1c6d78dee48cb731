-- The rows of a listing.
use Rattle.std.specs.Prelude.{List, [], map, Some, None, vec_items, Option}
use Rattle.names.specs.TypeView.{words}
use Rattle.names.specs.Types.{Words}
use Rattle.names.specs.Wire.{Octets, labels_of, wire}
use Rattle.books.specs.Held.{Entry, Held, from_name}
use Rattle.listing.specs.declared.Row.{Row}

-- the entry that a row shows
abbrev pub entry_in : Row → Entry
entry_in r = (labels_of (vec_items r.octets), words r.types)

abbrev pub entries_in : List Row → Held
entries_in rs = map entry_in rs

-- the entries from the one that a slot stands for on; none where there is no slot
abbrev pub from_slot : Option (Option Entry) → Held → Held
from_slot None hs = []
from_slot (Some None) hs = []
from_slot (Some (Some e)) hs = from_name e.0 hs

-- an entry as octets: the name's wire form, and the types
abbrev pub shown : Entry → Octets × Words
shown e = (wire e.0, e.1)

abbrev pub shown_by : Row → Octets × Words
shown_by r = (vec_items r.octets, words r.types)
