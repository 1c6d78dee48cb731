use Rattle.std.proofs.Common.{ap, ◌∙◌}
use Rattle.names.specs.Types.{with, unsigned_cut}
use Rattle.names.specs.Wire.{same_octets}
use Rattle.names.proofs.types.TypeSet.is_unsigned_cut.Goals as goal

pub returns : goal.returns
unfolding unsigned_cut
returns c =
    let cut = c.with-cut.ensures.value ∙ ap (λ s. with s 2) c.empty.ensures in
    c.eq.ensures ∙ ap (same_octets c.args.self.now.words) cut
