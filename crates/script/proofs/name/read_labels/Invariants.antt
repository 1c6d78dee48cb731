use Rattle.std.proofs.Common.{◌≡◌, [], length, vec_items}
use Rattle.script.specs.NameText.{before, read_labels}
use Rattle.script.proofs.name.read_labels.Given as goal

abbrev pub invariant-loop-rest : goal.invariant-loop-rest
invariant-loop-rest l = before (vec_items l.name) (read_labels (vec_items l.label) l.rest) ≡ read_labels [] l.text

abbrev pub decreases-loop-rest : goal.decreases-loop-rest
decreases-loop-rest l = length l.rest
