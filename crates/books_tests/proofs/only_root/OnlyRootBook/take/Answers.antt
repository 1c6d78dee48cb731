use Rattle.std.proofs.Common.{◌≡◌, Err, refl, arith}
use Rattle.names.specs.Wire.{labels_of}
use Rattle.names.specs.declared.refusal.Refusal.TheVariants.{NotHeld}
use Rattle.books.specs.Answers.{take_name}
use Rattle.books_tests.specs.Root.{root_held}
use Rattle.books_tests.proofs.Lengths.{as_counted}
use Rattle.books_tests.proofs.Rooting.{take_other, take_none}
use Rattle.books_tests.proofs.only_root.OnlyRootBook.take.Goals.{then-label_count-gt0-via-then-label_count-gt0, then-label_count-gt0-via-else-label_count-gt0+then-is_none}
use Rattle.books_tests.proofs.only_root.OnlyRootBook.take.Goals as goal

pub returns-then-label_count-gt0 : goal.returns-then-label_count-gt0
returns-then-label_count-gt0 c =
    let r = as_counted c.args.name.now _ c.label_count.result c.in_ok-name.ensures.octets c.label_count.ensures.value in
    let l = r.labels in
    let t : take_name (root_held c.args.self.now.types) (labels_of c.args.name.now) ≡ Err NotHeld =
    elim c.then-label_count-gt0.branch [
      | then-label_count-gt0-via-then-label_count-gt0 w ↦ let h = w.if-label_count-gt0.true in take_other (labels_of c.args.name.now) c.args.self.now.types (omega arith)
      | then-label_count-gt0-via-else-label_count-gt0+then-is_none w ↦ take_none (labels_of c.args.name.now) c.args.self.now.types w.if-is_none.ensures
    ] in
    record { answer = rw (r.name, t) refl; held = rw (r.name, t) refl; capacity = refl; cost = λ n. refl }
