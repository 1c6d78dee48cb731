use Rattle.std.proofs.Common.{sym, ap, ◌∙◌}
use lib.Dec.{eqb}
use lib.Pointwise.{pointwise}
use Rattle.names.proofs.Reader.{star_label}
use Rattle.names.proofs.name.reading.is_star.Goals as goal

pub returns : goal.returns
returns c = c.eq.ensures ∙ ap (pointwise eqb c.args.label.now) c.as_slice.ensures ∙ sym (star_label c.args.label.now)
