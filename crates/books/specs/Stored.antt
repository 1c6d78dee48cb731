-- A name and its types in a slot.
use Rattle.std.specs.Prelude.{ℕ, map, length, take, replicate}
use Rattle.names.specs.TypeView.{words}
use Rattle.names.specs.Types.{Words, no_types}
use Rattle.names.specs.Wire.{Octets, lower, labels_of, written}
use Rattle.books.specs.Held.{Entry}
use Rattle.books.specs.declared.named.Named.{Named}

-- all that a slot has: its octets, how many of these are the name, and the types
abbrev pub contents : Named → Octets × (ℕ × Words)
contents e = (e.octets, (e.len, words e.types))

-- the entry that a slot has
abbrev pub entry_in : Named → Entry
entry_in e = (labels_of (take e.len e.octets), words e.types)

-- a slot in which the name s, with types, was stored: its octets in lower case, then zeros
abbrev pub stored : Octets → Words → Octets × (ℕ × Words)
stored s ws = (written (map lower s) (replicate 255 0), (length s, ws))

-- a slot in which nothing was stored yet
abbrev pub blank : Octets × (ℕ × Words)
blank = (replicate 255 0, (1, no_types))
