use Rattle.std.proofs.Common.{not, ◌||◌, rules}
use Rattle.std.proofs.lemmas.Iterator.{YieldsList-from_range}
use Rattle.std.proofs.lemmas.Iterator.Search.{all_from_yields_List}
use Rattle.std.proofs.Common.{refl}
use Rattle.names.specs.Types.{room, has, holdable, only_holdable}
use Rattle.names.proofs.types.TypeSet.only_holdable.Goals as goal

pub returns : goal.returns
unfolding only_holdable
returns c =
    let ws = c.args.self.now.words in
    all_from_yields_List (λ t. not (has ws t) || holdable t) c.all.new.self _ _ c.all.ensures.ran (YieldsList-from_range 0 room room refl refl) (λ t b q e. search rules)
