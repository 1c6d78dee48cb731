-- The lines of a script. A line is a command and its words, with spaces between them; `#` begins a comment.
--   name NAME TYPES   list
use Rattle.std.specs.Prelude.{ℕ, cond, [], ◌∷◌, Some, None, Ok, Err, codes, Option, Result, ◌==◌}
use Rattle.names.specs.Types.{Words}
use Rattle.names.specs.Wire.{Octets, none, same_octets}
use Rattle.script.specs.NameText.{read_name}
use Rattle.script.specs.SetText.{read_set}
use Rattle.script.specs.declared.fault.Fault.{Fault}
use Rattle.script.specs.declared.fault.Fault.TheVariants.{NotACommand, TooFewWords, TooManyWords, NotAName, NotTypes}

-- the characters before the first c, and those after it
abbrev pub up_to : ℕ → Octets → Octets
up_to c [] = []
up_to c (x ∷ xs) = cond (x == c) [] (x ∷ up_to c xs)

abbrev pub past : ℕ → Octets → Octets
past c [] = []
past c (x ∷ xs) = cond (x == c) xs (past c xs)

-- the first word, empty where there is none, and what follows it
abbrev pub next_word : Octets → Octets × Octets
next_word [] = ([], [])
next_word (x ∷ xs) = cond (x == 32) (next_word xs) (x ∷ up_to 32 xs, past 32 xs)

-- what a line says
pub data Said : Type 0 where
  nothing : Said
  list : Said
  name : Octets → Words → Said

-- a name and a set of types, if both can be read
abbrev pub both : Option Octets → Option Words → Result Said Fault
both None ws = Err NotAName
both (Some s) None = Err NotTypes
both (Some s) (Some ws) = Ok (name s ws)

-- two words, and no third
abbrev pub two_words : Octets → Octets → Octets → Result Said Fault
two_words n ts more = cond (none ts) (Err TooFewWords) (cond (none more) (both (read_name n) (read_set ts)) (Err TooManyWords))

-- what follows `name`: NAME TYPES
abbrev pub name_line : Octets → Result Said Fault
name_line s = two_words (next_word s).0 (next_word (next_word s).1).0 (next_word (next_word (next_word s).1).1).0

-- what follows `list`: nothing
abbrev pub list_line : Octets → Result Said Fault
list_line s = cond (none (next_word s).0) (Ok list) (Err TooManyWords)

-- a command, and what follows it
abbrev pub command : Octets → Octets → Result Said Fault
command word rest =
    cond (none word) (Ok nothing)
    (cond (same_octets word (codes "list")) (list_line rest)
    (cond (same_octets word (codes "name")) (name_line rest)
    (Err NotACommand)))

-- what a line says, or its fault
abbrev pub read_line : Octets → Result Said Fault
read_line s = command (next_word (up_to 35 s)).0 (next_word (up_to 35 s)).1
