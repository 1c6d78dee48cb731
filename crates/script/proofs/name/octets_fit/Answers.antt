use Rattle.std.proofs.Common.{arith}
use Rattle.script.proofs.NamePrint.{octets_typed}
use Rattle.script.proofs.name.octets_fit.Goals as goal

pub returns : goal.returns
returns c = octets_typed c.args.octets.now (λ i. omega (arith, c.type_inv.octets i))
