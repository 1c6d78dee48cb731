use Rattle.std.proofs.Common.{Ok, ap, ◌∙◌}
use Rattle.names.specs.View.{labels}
use Rattle.books.specs.Answers.{some}
use Rattle.books.specs.Held.{entry_of}
use Rattle.table.specs.Tables.{held_by}
use Rattle.table.proofs.Slots.{of_read, found_at}
use Rattle.table.proofs.table_book.TableBook.find.Goals as goal

pub returns : goal.returns
returns c =
    let f = found_at (labels c.in_ok-name.name) (held_by c.args.self.now) c.position.result c.ok.result c.args.self.now.sorted c.position.ensures c.ok.ensures.value in
    ap Ok f ∙ of_read c.args.name.now _ (λ n. Ok (some (entry_of n (held_by c.args.self.now)))) c.in_ok-name.ensures.octets
