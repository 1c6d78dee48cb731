-- Faults in words.
use Rattle.std.specs.Prelude.{codes}
use Rattle.names.specs.Wire.{Octets}
use Rattle.script.specs.declared.fault.Fault.{Fault}
use Rattle.script.specs.declared.fault.Fault.TheVariants.{NoMemory, NotACommand, TooFewWords, TooManyWords, NotAName, NotTypes}

-- what is printed of a fault
abbrev pub fault_text : Fault → Octets
fault_text NoMemory = codes "no memory"
fault_text NotACommand = codes "no command"
fault_text TooFewWords = codes "too few words"
fault_text TooManyWords = codes "too many words"
fault_text NotAName = codes "no name in text form"
fault_text NotTypes = codes "no list of types below 128"
