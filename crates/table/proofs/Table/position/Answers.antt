use Rattle.std.proofs.Common.{ap, ◌∙◌, rules}
use Rattle.std.proofs.lemmas.Fn.{always_returns_same}
use Rattle.names.specs.Canonical.{canonical}
use Rattle.names.specs.View.{labels}
use Rattle.books.specs.Held.{rises}
use Rattle.books.specs.Stored.{entry_in}
use Rattle.table.proofs.Searching.{searched}
use Rattle.table.specs.Ranks.{entries_in, standing}
use Rattle.table.proofs.Table.position.Goals as goal

pub returns : goal.returns
returns c =
    let n = labels c.args.name.now in
    let s = c.entries.ensures in
    let f = c.binary_search_by.ensures.position (λ e. canonical (entry_in e).0 n) (always_returns_same _ _ _ (λ a r g h. search rules)) in
    searched n c.entries.result.now c.binary_search_by.result (ap (λ es. rises (entries_in es)) s ∙ c.args.self.now.sorted) c.binary_search_by.ensures.bound f ∙ ap (λ es. standing n (entries_in es)) s
