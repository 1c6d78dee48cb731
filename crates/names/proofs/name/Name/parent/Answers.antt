use Rattle.std.proofs.Common.{sym, ap, ◌∙◌}
use Rattle.names.specs.View.{labels}
use Rattle.names.specs.Wire.{parent_of}
use Rattle.std.specs.Option.{option_map}
use Rattle.names.proofs.Reader.{labels_first, labels_none}
use Rattle.names.proofs.name.Name.parent.Goals as goal

pub returns-in_err-rest-clause-labels : goal.returns-in_err-rest-clause-labels
returns-in_err-rest-clause-labels c =
    ap (option_map labels) c.from_residual.ensures ∙ sym (ap parent_of (labels_none _ (sym c.in_err-rest.ensures)))

pub returns-clause-labels : goal.returns-clause-labels
returns-clause-labels c = sym (ap parent_of (labels_first _ _ _ (sym c.in_ok-rest.ensures)))
