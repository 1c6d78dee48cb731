use Rattle.std.proofs.Common.{◌≡◌, length, ap, ◌∙◌}
use Rattle.digests.specs.Sha.{run}
use Rattle.digests.proofs.Joins.{run_block}
use Rattle.digests.proofs.Lays.{block_laid}
use Rattle.digests.proofs.sha1.blocks.Joined.absorb.Goals as goal

pub returns : goal.returns
returns c =
    let e : c.lay.new.out ≡ c.args.self.now = block_laid c.args.self.now _ c.requires c.lay.ensures in
    c.absorb.ensures ∙ run_block c.args.s c.lay.new.out (ap length e ∙ c.requires) ∙ ap (run c.args.s) e
