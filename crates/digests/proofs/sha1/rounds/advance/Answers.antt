use Rattle.std.proofs.Common.{◌≡◌, length, ◌∙◌, arith, rules}
use Rattle.digests.proofs.Steps.{rolled_none, rolled_more, next_rolled}
use Rattle.digests.proofs.sha1.rounds.advance.Goals as goal

pub loop-i-init : goal.loop-i-init
loop-i-init c = rolled_none c.args.w (search rules)

pub loop-i-preserved : goal.loop-i-preserved
loop-i-preserved c =
    let l : length c.args.w ≡ 16 = search rules in
    rolled_more c.args.w c.loop-i.v c.loop-i.i _ l (omega arith) c.loop-i.invariant (c.rotate_left.ensures ∙ next_rolled c.args.w c.loop-i.v c.loop-i.i l (omega arith) c.loop-i.invariant)
