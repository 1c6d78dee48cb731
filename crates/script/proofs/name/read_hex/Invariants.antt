use Rattle.std.proofs.Common.{◌≡◌, drop, vec_items}
use Rattle.script.specs.NameText.{before, read_hex}
use Rattle.script.proofs.NameSteps.{read_pairs}
use Rattle.script.proofs.name.read_hex.Given as goal

abbrev pub invariant-loop-high : goal.invariant-loop-high
invariant-loop-high l = before (vec_items l.octets) (read_pairs (drop l.high-index l.pairs)) ≡ read_hex l.text
