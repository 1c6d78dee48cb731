use Rattle.std.proofs.Common.{◌≡◌, ◌++◌, string_bytes}
use Rattle.names.specs.View.{labels}
use Rattle.script.specs.NameText.{labels_text}
use Rattle.script.proofs.name.labels_text.Given as goal

abbrev pub invariant-loop-label : goal.invariant-loop-label
invariant-loop-label l = string_bytes l.text ++ labels_text (labels l.label-iterator.left) ≡ labels_text (labels l.name)
