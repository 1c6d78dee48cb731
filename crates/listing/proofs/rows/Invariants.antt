use Rattle.std.proofs.Common.{◌≡◌, ◌++◌, length, vec_items}
use Rattle.std.specs.Option.{option_map}
use Rattle.books.specs.Answers.{some}
use Rattle.books.specs.Held.{first_entry}
use Rattle.listing.specs.Rows.{entries_in, from_slot}
use Rattle.listing.proofs.rows.Given as goal

abbrev pub invariant-loop-slot : goal.invariant-loop-slot
invariant-loop-slot g l =
    (entries_in (vec_items l.rows) ++ from_slot (option_map (g.B.Book.entry l.book) l.slot) (g.B.Book.held l.book) ≡ g.B.Book.held l.book)
    × (option_map (g.B.Book.entry l.book) l.slot ≡ some (first_entry (from_slot (option_map (g.B.Book.entry l.book) l.slot) (g.B.Book.held l.book))))

abbrev pub decreases-loop-slot : goal.decreases-loop-slot
decreases-loop-slot g l = length (from_slot (option_map (g.B.Book.entry l.book) l.slot) (g.B.Book.held l.book))
