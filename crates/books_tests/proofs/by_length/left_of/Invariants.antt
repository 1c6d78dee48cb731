use Rattle.std.proofs.Common.{◌≡◌, ◌+◌, drop}
use Rattle.books.specs.Held.{spent}
use Rattle.table.specs.Ranks.{entries_in}
use Rattle.books_tests.specs.Octets.{octets_of}
use Rattle.books_tests.proofs.by_length.left_of.Given as goal

abbrev pub invariant-loop-entry : goal.invariant-loop-entry
invariant-loop-entry l = l.left + spent octets_of (entries_in l.entries) ≡ l.octets + spent octets_of (entries_in (drop l.entry-index l.entries))
