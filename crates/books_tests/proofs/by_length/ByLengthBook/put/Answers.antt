use Rattle.std.proofs.Common.{refl}
use Rattle.names.specs.TypeView.{words}
use Rattle.table.specs.Tables.{held_by, slot_count}
use Rattle.books_tests.proofs.Paying.{table_puts}
use Rattle.books_tests.proofs.by_length.ByLengthBook.put.Goals as goal

pub returns : goal.returns
returns c =
    let p = table_puts (slot_count c.args.self.now.table.now) (held_by c.args.self.now.table.now) (held_by c.insert.new.self) c.args.name.now (words c.args.types.now) c.insert.result c.in_ok-admit.ensures c.insert.ensures.answer c.insert.ensures.held in
    record { answer = p.answer; held = p.held; capacity = c.insert.ensures.slots; cost = λ n. refl }
