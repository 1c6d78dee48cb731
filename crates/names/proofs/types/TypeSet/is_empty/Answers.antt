use Rattle.std.proofs.Common.{◌≡◌, length, arith}
use Rattle.std.proofs.lemmas.Slice.Eq.{slice_eq-Decides}
use Rattle.std.proofs.lemmas.Bool.Decides.{same_from_decides, Decides-eqb}
use Rattle.names.specs.Types.{width}
use Rattle.names.proofs.TypeLaws.{empty_decides}
use Rattle.names.proofs.types.TypeSet.is_empty.Goals as goal

pub returns : goal.returns
returns c =
    let full : length c.args.self.now.words ≡ width = omega arith in
    same_from_decides _ _ (slice_eq-Decides Decides-eqb _ _ _ c.eq.ensures) (empty_decides c.args.self.now.words full)
