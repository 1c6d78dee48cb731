use Rattle.std.proofs.Common.{sym}
use Rattle.names.proofs.Reader.{name_first}
use Rattle.names.proofs.name.Name.split_first.Goals as goal

pub invariant_of-result : goal.invariant_of-result
invariant_of-result c = record { whole = name_first _ _ _ (sym c.in_ok-label.ensures) c.args.self.now.whole }
