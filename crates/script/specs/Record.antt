-- The lines that the program prints.
use Rattle.std.specs.Prelude.{◌++◌, codes}
use Rattle.names.specs.Types.{Words}
use Rattle.names.specs.Wire.{Octets, Labels}
use Rattle.script.specs.NameText.{name_text}
use Rattle.script.specs.SetText.{set_text}

-- a line of the script and its answer
abbrev pub record_line : Octets → Octets → Octets
record_line line answer = line ++ codes " => " ++ answer

-- a name and its types, indented
abbrev pub entry_line : Labels → Words → Octets
entry_line n ws = codes "  " ++ name_text n ++ codes " " ++ set_text ws
