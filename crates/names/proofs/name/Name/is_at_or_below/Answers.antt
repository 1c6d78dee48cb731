use Rattle.std.proofs.Common.{arith}
use Rattle.names.specs.View.{labels}
use Rattle.names.proofs.Ordered.{at_or_below_shared}
use Rattle.names.proofs.name.Name.is_at_or_below.Goals as goal

pub returns : goal.returns
returns c =
    let e = at_or_below_shared (labels c.args.self.now) (labels c.args.other.now) in
    let s = c.shared_labels.ensures in
    let l = c.label_count.ensures.value in
    grind arith
