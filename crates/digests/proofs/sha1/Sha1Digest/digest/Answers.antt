use Rattle.std.proofs.Common.{◌++◌, drop, ap, ◌∙◌}
use Rattle.digests.specs.Sha.{ended, sha1, run, initial, padded}
use Rattle.digests.proofs.sha1.Sha1Digest.digest.Goals as goal

pub returns-clause-buffer : goal.returns-clause-buffer
unfolding sha1
returns-clause-buffer c = c.put_state.ensures ∙ ap (λ s. ended s ++ drop 20 c.args.out.now) (c.hash.ensures ∙ ap (λ m. run initial (padded m)) c.new.ensures)
