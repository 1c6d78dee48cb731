use Rattle.std.specs.Ordering.{is_eq}
use Rattle.std.proofs.Common.{sym, ap, ◌∙◌}
use Rattle.names.specs.Orders.{names_ties}
use Rattle.names.specs.View.{labels}
use Rattle.names.proofs.name.comparing.NamePartialEq.eq.Goals as goal

pub returns : goal.returns
returns c = c.is_eq.ensures ∙ ap is_eq c.cmp.ensures.value ∙ sym (names_ties (labels c.args.self.now) (labels c.args.other.now))
