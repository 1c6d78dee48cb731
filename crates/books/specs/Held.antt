-- What a book holds: names with their types, one list, strictly rising in canonical order.
use Rattle.std.specs.Prelude.{ℕ, ◌+◌, Bool, true, cond, ◌&&◌, List, [], ◌∷◌, Some, None, Option}
use Rattle.std.specs.Ordering.{is_lt}
use Rattle.names.specs.Canonical.{canonical, same_name}
use Rattle.names.specs.Types.{Words}
use Rattle.names.specs.Wire.{Labels, is_labels}

-- a name with its types
abbrev pub Entry : Type 0
Entry = Labels × Words

abbrev pub Held : Type 0
Held = List (Labels × Words)

-- a is less than b in canonical order
abbrev pub less : Labels → Labels → Bool
less a b = is_lt (canonical a b)

-- n is a name, each name after it too, and each is less than the next
abbrev pub rises_from : Labels → Held → Bool
rises_from n [] = is_labels n
rises_from n (e ∷ es) = is_labels n && (less n e.0 && rises_from e.0 es)

abbrev pub rises : Held → Bool
rises [] = true
rises (e ∷ es) = rises_from e.0 es

-- the entry of a name, if the name is held
abbrev pub entry_of : Labels → Held → Option Entry
entry_of n [] = None
entry_of n (e ∷ es) = cond (same_name n e.0) (Some e) (entry_of n es)

-- the first entry whose name is greater than n, which may be held or not
abbrev pub entry_after : Labels → Held → Option Entry
entry_after n [] = None
entry_after n (e ∷ es) = cond (less n e.0) (Some e) (entry_after n es)

abbrev pub first_entry : Held → Option Entry
first_entry [] = None
first_entry (e ∷ es) = Some e

-- the list with one entry more, in its place
abbrev pub with_entry : Entry → Held → Held
with_entry e [] = e ∷ []
with_entry e (f ∷ fs) = cond (less e.0 f.0) (e ∷ f ∷ fs) (f ∷ with_entry e fs)

-- the list without the entry of a name
abbrev pub without_name : Labels → Held → Held
without_name n [] = []
without_name n (e ∷ es) = cond (same_name n e.0) es (e ∷ without_name n es)

-- what the held names cost together
abbrev pub spent : (Labels → ℕ) → Held → ℕ
spent cost [] = 0
spent cost (e ∷ es) = cost e.0 + spent cost es

-- the cost of a name in the shipped books: one slot
abbrev pub one_each : Labels → ℕ
one_each n = 1

-- the entries from a name on
abbrev pub from_name : Labels → Held → Held
from_name n [] = []
from_name n (e ∷ es) = cond (same_name n e.0) (e ∷ es) (from_name n es)
