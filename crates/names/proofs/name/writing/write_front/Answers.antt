use Rattle.std.proofs.Common.{◌≡◌, ◌∙◌, ap₂, get_or, set, arith}
use Rattle.names.specs.Wire.{lower}
use Rattle.names.proofs.Slices.{ascii_lower}
use Rattle.names.proofs.Writes.{lower_more, lower_whole}
use Rattle.names.proofs.name.writing.write_front.Goals as goal

pub loop-i-preserved : goal.loop-i-preserved
loop-i-preserved c =
    let f : c.to_ascii_lowercase.result ≡ lower (get_or c.args.s.now c.loop-i.i 0) = c.to_ascii_lowercase.ensures.value ∙ ascii_lower (get_or c.args.s.now c.loop-i.i 0) in
    ap₂ (λ u x. set u c.loop-i.i x) c.loop-i.invariant f ∙ lower_more c.args.s.now c.args.out.now c.loop-i.i (omega arith) (omega arith)

pub returns : goal.returns
returns c = lower_whole c.args.s.now c.args.out.now c.loop-i.out c.loop-i.i c.loop-i-test.false c.loop-i.auto.i-end c.loop-i.invariant
