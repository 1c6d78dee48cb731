use Rattle.std.proofs.Common.{◌≡◌, ◌++◌, map, take, drop}
use Rattle.names.specs.Wire.{lower}
use Rattle.names.proofs.name.writing.write_front.Given as goal

abbrev pub invariant-loop-i : goal.invariant-loop-i
invariant-loop-i l = l.out ≡ map lower (take l.i l.s) ++ drop l.i l.initial.out
