use Rattle.std.proofs.Common.{refl, arith}
use Rattle.std.proofs.lemmas.Bool.Decides.{nat_tests}
use Rattle.names.specs.Wire.{labels_of}
use Rattle.books_tests.proofs.Lengths.{wire_some}
use Rattle.books_tests.proofs.nothing.NothingBook.put.Goals as goal

pub returns : goal.returns
returns c =
    let o = c.in_ok-read.ensures.octets in
    let w = wire_some (labels_of c.args.name.now) in
    record { answer = grind (arith, nat_tests); held = grind (arith, nat_tests); capacity = refl; cost = λ n. refl }
