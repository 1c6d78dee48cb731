use Rattle.std.proofs.Common.{rules, tests, ◌∙◌}
use Rattle.std.proofs.lemmas.Iterator.Adapters.{YieldsList-from_bytes}
use Rattle.std.proofs.lemmas.Iterator.Search.{all_from_yields_List}
use Rattle.script.specs.NameText.{is_digit}
use Rattle.script.proofs.TypeSteps.{digits_all}
use Rattle.script.proofs.types.are_digits.Goals as goal

pub returns : goal.returns
returns c =
    all_from_yields_List is_digit _ _ c.all.result c.all.ensures.ran (YieldsList-from_bytes c.args.text.now (search rules)) (λ x b q k. search (rules, tests))
    ∙ digits_all c.args.text.now
