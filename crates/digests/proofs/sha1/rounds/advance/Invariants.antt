use Rattle.std.proofs.Common.{◌≡◌}
use Rattle.digests.proofs.Steps.{Rolled}
use Rattle.digests.proofs.sha1.rounds.advance.Given as goal

abbrev pub invariant-loop-i : goal.invariant-loop-i
invariant-loop-i l = l.v ≡ Rolled l.initial.v l.i
