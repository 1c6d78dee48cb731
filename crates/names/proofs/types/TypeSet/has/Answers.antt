use Rattle.std.proofs.Common.{not, eqb, get_or, sym, ap₂, arith}
use lib.Bits.{bit_and}
use Rattle.names.specs.Types.{has}
use Rattle.names.proofs.TypeLaws.{has_past}
use Rattle.names.proofs.types.TypeSet.has.Goals as goal

pub returns-then-i-ge-WORDS : goal.returns-then-i-ge-WORDS
returns-then-i-ge-WORDS c = sym (has_past c.args.self.now.words c.args.t (omega arith))

pub returns : goal.returns
unfolding has
returns c =
    ap₂ (λ i m. not (eqb (bit_and (get_or c.args.self.now.words i 0) m) 0)) c.from-i.ensures c.mask_of.ensures
