-- Sets of types as text: the types of the set, each below the room that a set has.
use Rattle.std.specs.Prelude.{ℕ, zero, suc, Bool, true, cond, ◌&&◌, List, [], ◌∷◌, ◌++◌, Some, None, Option, nat_lt}
use Rattle.names.specs.Types.{Words, room, has, with, no_types}
use Rattle.names.specs.Wire.{Octets}
use Rattle.script.specs.TypeText.{read_types, types_text}

-- a set has room for each of the types
abbrev pub have_room : List ℕ → Bool
have_room [] = true
have_room (t ∷ ts) = nat_lt t room && have_room ts

-- the set with all the types besides
abbrev pub with_all : Words → List ℕ → Words
with_all ws [] = ws
with_all ws (t ∷ ts) = with_all (with ws t) ts

-- the set of these types
abbrev pub set_of : List ℕ → Option Words
set_of ts = cond (have_room ts) (Some (with_all no_types ts)) None

-- the types of a set below n, rising
unfoldable pub types_below : ℕ → Words → List ℕ
types_below zero ws = []
types_below (suc t) ws = types_below t ws ++ cond (has ws t) (t ∷ []) []

-- the types of a set, rising
unfoldable pub types_in : Words → List ℕ
types_in ws = types_below room ws

abbrev pub set_if_any : Option (List ℕ) → Option Words
set_if_any None = None
set_if_any (Some ts) = set_of ts

-- the set that a text stands for
abbrev pub read_set : Octets → Option Words
read_set s = set_if_any (read_types s)

-- a set, printed
abbrev pub set_text : Words → Octets
set_text ws = types_text (types_in ws)
