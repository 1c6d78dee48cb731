-- What the lines of the code mean, and what their reader returns.
use Rattle.std.specs.Prelude.{◌≡◌, ◌⊎◌, Ok, Err, vec_items, Result}
use Rattle.names.specs.TypeView.{words}
use Rattle.script.specs.Lines.{Said, nothing, list, name}
use Rattle.script.specs.declared.fault.Fault.{Fault}
use Rattle.script.specs.declared.fault.Fault.TheVariants.{NoMemory}
use Rattle.script.specs.declared.line.Line.{Line}
use Rattle.script.specs.declared.line.Line.TheVariants.{Nothing, List, Name}

abbrev pub said : Line → Said
said Nothing = nothing
said List = list
said (Name v t) = name (vec_items v) (words t)

-- r is what the line says, or its fault, or that there is no memory
abbrev pub ReadsLine : Result Line Fault → Result Said Fault → Type 0
ReadsLine (Ok l) x = x ≡ Ok (said l)
ReadsLine (Err e) x = (e ≡ NoMemory) ⊎ (x ≡ Err e)
