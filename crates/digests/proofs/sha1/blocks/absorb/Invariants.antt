use Rattle.std.proofs.Common.{◌≡◌, take}
use Rattle.digests.specs.Runs.{absorbed}
use Rattle.digests.proofs.sha1.blocks.absorb.Given as goal

abbrev pub invariant-loop-block : goal.invariant-loop-block
invariant-loop-block l = l.s ≡ absorbed l.initial.s (take l.block-index l.blocks)
