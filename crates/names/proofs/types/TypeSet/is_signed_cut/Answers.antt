use Rattle.std.proofs.Common.{ap, ◌∙◌}
use Rattle.names.specs.Types.{with, signed_cut}
use Rattle.names.specs.Wire.{same_octets}
use Rattle.names.proofs.types.TypeSet.is_signed_cut.Goals as goal

pub returns : goal.returns
unfolding signed_cut
returns c =
    let first = c.with.ensures.value ∙ ap (λ s. with s 2) c.empty.ensures in
    let cut = c.with-cut.ensures.value ∙ ap (λ s. with s 43) first in
    c.eq.ensures ∙ ap (same_octets c.args.self.now.words) cut
