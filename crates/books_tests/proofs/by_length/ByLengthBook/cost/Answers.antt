use Rattle.std.proofs.Common.{length, Ok, sym, ap, ◌∙◌}
use Rattle.books_tests.proofs.Lengths.{wire_long, as_read}
use Rattle.books_tests.proofs.by_length.ByLengthBook.cost.Goals as goal

pub returns : goal.returns
returns c =
    let r = as_read c.args.name.now _ c.in_ok-name.ensures.octets in
    rw r.name (ap Ok (ap length (c.octets.ensures ∙ r.all) ∙ sym (wire_long c.args.name.now r.name)))
