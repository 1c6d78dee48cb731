use Rattle.std.proofs.Common.{arith}
use Rattle.std.proofs.lemmas.Bool.Decides.{nat_tests}
use Rattle.names.specs.View.{labels}
use Rattle.names.proofs.Ordered.{below_longer, families}
use Rattle.names.proofs.name.Name.is_below.Goals as goal

pub returns-then-label_count : goal.returns-then-label_count
returns-then-label_count c =
    let e = below_longer (labels c.args.self.now) (labels c.args.other.now) in
    let a = c.label_count.ensures.value in
    let b = c.label_count-2.ensures.value in
    record { value = grind (arith, nat_tests); families = families }

pub returns-else-label_count : goal.returns-else-label_count
returns-else-label_count c =
    let e = below_longer (labels c.args.self.now) (labels c.args.other.now) in
    let a = c.label_count.ensures.value in
    let b = c.label_count-2.ensures.value in
    record { value = grind (arith, nat_tests); families = families }
