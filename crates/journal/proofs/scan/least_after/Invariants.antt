use Rattle.std.proofs.Common.{◌≡◌, ◌++◌, length, drop}
use Rattle.names.specs.View.{labels}
use Rattle.journal.specs.View.{shown}
use Rattle.journal.proofs.Nearest.{IsNearest}
use Rattle.journal.proofs.scan.least_after.Given as goal

abbrev pub invariant-loop-i : goal.invariant-loop-i
invariant-loop-i l =
    let rest = l.i-iterator.iter.iter.rest.now in
    (l.i-iterator.iter.count ≡ 0) × (rest ++ drop (length rest) l.notes ≡ l.notes) × IsNearest (labels l.after) (shown l.notes) (length rest) l.best
