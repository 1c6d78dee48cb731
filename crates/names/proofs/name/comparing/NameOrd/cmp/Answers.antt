use Rattle.names.proofs.Ordered.{canonical_total}
use Rattle.names.proofs.name.comparing.NameOrd.cmp.Goals as goal

pub returns-clause-total : goal.returns-clause-total
returns-clause-total c = canonical_total
