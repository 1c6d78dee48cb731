use Rattle.std.proofs.Common.{◌≡◌, ◌++◌, drop, string_bytes}
use Rattle.script.specs.TypeText.{further_text}
use Rattle.script.proofs.types.types_text.Given as goal

abbrev pub invariant-loop-t : goal.invariant-loop-t
invariant-loop-t l = string_bytes l.text ++ further_text (drop l.t-index l.rest) ≡ string_bytes l.initial.text ++ further_text l.rest
