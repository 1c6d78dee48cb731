use Rattle.std.proofs.Common.{inl, arith}
use Rattle.names.proofs.Reader.{labels_short}
use Rattle.names.proofs.name.Name.label_count.Goals as goal

pub count-requires-clause-fits : goal.count-requires-clause-fits
count-requires-clause-fits c = let s = labels_short c.args.self.now.octets.now in inl (grind arith)

pub returns-clause-bound : goal.returns-clause-bound
returns-clause-bound c = let s = labels_short c.args.self.now.octets.now in grind arith
