-- Where a name stands, or would stand, in a list that rises.
use Rattle.std.specs.Prelude.{ℕ, suc, cond, List, [], ◌∷◌, map, is_some, Ok, Err, Result}
use Rattle.names.specs.Wire.{Labels}
use Rattle.books.specs.Held.{Held, less, entry_of}
use Rattle.books.specs.Stored.{entry_in}
use Rattle.books.specs.declared.named.Named.{Named}

-- the entries that slots have
abbrev pub entries_in : List Named → Held
entries_in es = map entry_in es

-- how many entries at the front have lesser names than n
abbrev pub rank : Labels → Held → ℕ
rank n [] = 0
rank n (e ∷ es) = cond (less e.0 n) (suc (rank n es)) 0

-- the rank of a name, told apart by whether the name is held
abbrev pub standing : Labels → Held → Result ℕ ℕ
standing n hs = cond (is_some (entry_of n hs)) (Ok (rank n hs)) (Err (rank n hs))
