use Rattle.std.proofs.Common.{Ok, sym, ap, ◌∙◌, rules}
use Rattle.std.proofs.lemmas.List.Sorted.{IsPartitionPoint-from_clause}
use Rattle.std.specs.List.{slice_get}
use Rattle.std.specs.Ordering.{is_le}
use Rattle.names.specs.Canonical.{canonical}
use Rattle.names.specs.View.{labels}
use Rattle.books.specs.Answers.{some}
use Rattle.books.specs.Held.{rises, entry_after}
use Rattle.books.specs.Stored.{entry_in}
use Rattle.table.specs.Ranks.{entries_in}
use Rattle.table.specs.Tables.{held_by}
use Rattle.table.proofs.Searching.{partitioned, after_at}
use Rattle.table.proofs.Slots.{of_read}
use Rattle.table.proofs.table_book.TableBook.next.Goals as goal

pub returns : goal.returns
returns c =
    let n = labels c.in_ok-name.name in
    let es = c.entries.result.now in
    let i = c.partition_point-after.result in
    let h = ap (λ xs. rises (entries_in xs)) c.entries.ensures ∙ c.args.self.now.sorted in
    let p = IsPartitionPoint-from_clause (λ e. is_le (canonical (entry_in e).0 n)) es i c.partition_point-after.ensures.partitioned (partitioned n es h) (λ a r g h. search rules) in
    let f = after_at n es i c.partition_point-after.ensures.bound p in
    ap Ok (c.slot.ensures ∙ ap some (sym (ap (λ xs. entry_after n (entries_in xs)) (sym c.entries.ensures) ∙ f ∙ ap (λ xs. slice_get (entries_in xs) i) c.entries.ensures)))
    ∙ of_read c.args.name.now _ (λ m. Ok (some (entry_after m (held_by c.args.self.now)))) c.in_ok-name.ensures.octets
