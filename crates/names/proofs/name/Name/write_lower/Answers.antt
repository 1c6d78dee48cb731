use Rattle.std.proofs.Common.{refl, arith}
use Rattle.names.proofs.Undo.{name_short}
use Rattle.names.proofs.Writes.{wrote_name}
use Rattle.names.proofs.name.Name.write_lower.Goals as goal

pub write_front-requires : goal.write_front-requires
write_front-requires c = let s = name_short c.args.self.now.octets.now c.args.self.now.whole in omega arith

pub returns-clause-name : goal.returns-clause-name
returns-clause-name c = wrote_name _ _ _ _ c.args.self.now.whole refl c.write_front.ensures
