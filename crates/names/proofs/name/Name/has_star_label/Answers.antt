use Rattle.std.proofs.Common.{rules}
use Rattle.std.proofs.lemmas.Iterator.Consumers.{YieldsList-from_first}
use Rattle.std.proofs.lemmas.Iterator.Search.{any_from_yields_List}
use Rattle.names.specs.Types.{is_star}
use Rattle.names.proofs.name.Name.has_star_label.Goals as goal

pub returns : goal.returns
returns c = any_from_yields_List is_star c.any.new.self _ _ c.any.ensures.ran (YieldsList-from_first _ _ _ c.labels.ensures) (λ x b q e. search rules)
