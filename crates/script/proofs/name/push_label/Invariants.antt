use Rattle.std.proofs.Common.{◌≡◌, ◌++◌, map, drop, string_bytes}
use Rattle.names.specs.Wire.{lower}
use Rattle.script.specs.NameText.{label_text}
use Rattle.script.proofs.name.push_label.Given as goal

abbrev pub invariant-loop-x : goal.invariant-loop-x
invariant-loop-x l = string_bytes l.text ++ label_text (map lower (drop l.x-index l.label)) ≡ string_bytes l.initial.text ++ label_text (map lower l.label)
