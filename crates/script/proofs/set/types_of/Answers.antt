use Rattle.std.proofs.Common.{refl, rules, tests, ◌∙◌}
use Rattle.std.proofs.lemmas.Iterator.{items_from_collect, YieldsList-from_range}
use Rattle.std.proofs.lemmas.Iterator.Consumers.{YieldsList-from_filter}
use Rattle.std.proofs.lemmas.Result.{IfOk-weaker}
use Rattle.names.specs.TypeView.{words}
use Rattle.names.specs.Types.{has, room}
use Rattle.script.proofs.SetSteps.{types_filtered}
use Rattle.script.proofs.set.types_of.Goals as goal

pub returns : goal.returns
returns c =
    let ws = words c.args.set.now in
    IfOk-weaker c.collect.result _ _ (λ v e. e ∙ types_filtered ws)
    (items_from_collect c.collect.result c.collect.ensures.ran
    (YieldsList-from_filter _ (has ws) (YieldsList-from_range 0 room room c.filter.ensures.source refl) c.filter.ensures.closure (λ x b q k. search (rules, tests))))
