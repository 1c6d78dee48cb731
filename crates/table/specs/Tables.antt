-- What a table holds.
use Rattle.std.specs.Prelude.{ℕ, cond, List, map, length, is_ok, Option}
use Rattle.std.specs.List.{slice_get, insert, remove}
use Rattle.names.specs.Wire.{Octets, labels_of}
use Rattle.names.specs.Types.{Words}
use Rattle.shelf.specs.Entries.{live}
use Rattle.books.specs.Answers.{of_name, put_name, take_name}
use Rattle.books.specs.Held.{Entry, Held, one_each}
use Rattle.books.specs.Stored.{contents, stored}
use Rattle.books.specs.declared.named.Named.{Named}
use Rattle.table.specs.Ranks.{entries_in, rank}
use Rattle.table.specs.declared.Table.{Table}

-- the slots in use
abbrev pub in_use : Table → List Named
in_use t = live t.shelf.slots.now t.shelf.count

abbrev pub held_by : Table → Held
held_by t = entries_in (in_use t)

-- how many slots there are
abbrev pub slot_count : Table → ℕ
slot_count t = length t.shelf.slots.now

-- the slots in use, each with all that it has
abbrev pub kept : Table → List (Octets × (ℕ × Words))
kept t = map contents (in_use t)

-- the entry of a slot number
abbrev pub entry_at : Table → ℕ → Option Entry
entry_at t i = slice_get (held_by t) i

-- the slots in use once a name was put or taken, as they were where that is refused: a new entry stands at its name's
-- rank, stored in lower case
abbrev pub inserted_in : Table → Octets → Words → List (Octets × (ℕ × Words))
inserted_in t s ws =
    cond (is_ok (of_name s (put_name (slot_count t) one_each (held_by t)))) (insert (kept t) (rank (labels_of s) (held_by t)) (stored s ws)) (kept t)

abbrev pub removed_from : Table → Octets → List (Octets × (ℕ × Words))
removed_from t s = cond (is_ok (of_name s (take_name (held_by t)))) (remove (kept t) (rank (labels_of s) (held_by t))) (kept t)
