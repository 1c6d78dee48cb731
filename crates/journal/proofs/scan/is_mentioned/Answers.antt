use Rattle.std.proofs.Common.{◌∙◌, rules, tests}
use Rattle.std.proofs.lemmas.Iterator.{YieldsList-from_slice}
use Rattle.std.proofs.lemmas.Iterator.Search.{any_from_yields_List}
use Rattle.names.specs.View.{labels}
use Rattle.journal.proofs.Places.{names_it, mentions_any}
use Rattle.journal.proofs.scan.is_mentioned.Goals as goal

pub returns : goal.returns
returns c =
    let n = labels c.args.name.now in
    let ns = c.args.notes.now in
    any_from_yields_List (names_it n) _ _ _ c.any.ensures.ran (YieldsList-from_slice ns (cc)) (λ x b q k. search (rules, tests)) ∙ mentions_any n ns
