use Rattle.names.specs.View.{labels}
use Rattle.names.proofs.Steps.{Met}
use Rattle.names.proofs.name.comparing.meet_level.Given as goal

abbrev pub invariant-loop-x : goal.invariant-loop-x
invariant-loop-x l = Met (labels l.a) (labels l.b) (labels l.x-iterator.a.left) (labels l.x-iterator.b.left) l.shared l.order
