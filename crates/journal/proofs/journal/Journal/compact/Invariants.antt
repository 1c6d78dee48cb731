use Rattle.std.proofs.Common.{◌≡◌, ◌-◌, ◌≤◌, length}
use Rattle.journal.specs.Notes.{compacted}
use Rattle.journal.specs.State.{notes_of, slots_of}
use Rattle.journal.specs.View.{shown}
use Rattle.journal.proofs.Moves.{settled}
use Rattle.journal.proofs.journal.Journal.compact.Given as goal

abbrev pub invariant-loop-i : goal.invariant-loop-i
invariant-loop-i l =
    (settled (notes_of l.self) l.i ≡ compacted (shown (notes_of l.initial.self)))
    × (l.i ≤ length (notes_of l.self))
    × (slots_of l.self ≡ slots_of l.initial.self)

abbrev pub decreases-loop-i : goal.decreases-loop-i
decreases-loop-i l = length (notes_of l.self) - l.i
