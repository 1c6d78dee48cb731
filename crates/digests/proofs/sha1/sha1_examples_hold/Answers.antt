use Rattle.std.proofs.Common.{refl}
use Rattle.digests.specs.Sha.{sha1, run, schedule, words_at}
use Rattle.digests.proofs.sha1.sha1_examples_hold.Goals as goal

pub returns-clause-examples : goal.returns-clause-examples
unfolding sha1 run schedule words_at
returns-clause-examples c = record { empty = refl; abc = refl; two_blocks = refl }
