use Rattle.std.proofs.Common.{refl}
use Rattle.script.proofs.LineSteps.{cut_parts}
use Rattle.script.proofs.line.cut.Goals as goal

pub returns : goal.returns
returns c =
    let p = cut_parts c.args.mark c.args.text.now c.split_once.result _ _ c.split_once.ensures.cases c.requires refl refl c.unwrap_or.ensures in
    record { before = p.0; after = p.1 }
