use Rattle.std.proofs.Common.{Ok, sym, ap, arith}
use Rattle.names.specs.Wire.{labels_of}
use Rattle.books.specs.Answers.{some}
use Rattle.books_tests.proofs.Lengths.{as_counted}
use Rattle.books_tests.proofs.Rooting.{none_found}
use Rattle.books_tests.proofs.only_root.OnlyRootBook.find.Goals as goal

pub returns-then-label_count-gt0 : goal.returns-then-label_count-gt0
returns-then-label_count-gt0 c =
    let r = as_counted c.args.name.now _ c.label_count.result c.in_ok-name.ensures.octets c.label_count.ensures.value in
    let l = r.labels in
    let h = c.if-label_count-gt0.true in
    rw r.name (ap (λ o. Ok (some o)) (sym (none_found (labels_of c.args.name.now) c.args.self.now.types (omega arith))))
