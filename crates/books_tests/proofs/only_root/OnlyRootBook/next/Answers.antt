use Rattle.std.proofs.Common.{refl}
use Rattle.names.specs.Wire.{labels_of}
use Rattle.books_tests.proofs.Lengths.{as_read}
use Rattle.books_tests.proofs.Rooting.{none_after}
use Rattle.books_tests.proofs.only_root.OnlyRootBook.next.Goals as goal

pub returns : goal.returns
returns c =
    let r = as_read c.args.name.now _ c.in_ok-read.ensures.octets in
    rw (r.name, none_after (labels_of c.args.name.now) c.args.self.now.types) refl
