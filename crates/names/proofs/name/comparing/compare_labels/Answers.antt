use Rattle.std.specs.Ordering.{nat_cmp}
use Rattle.std.proofs.Common.{◌≡◌, map, refl, ap, ◌∙◌, rules}
use Rattle.std.proofs.lemmas.Iterator.{YieldsList-from_slice, YieldsList-from_map}
use Rattle.std.proofs.lemmas.Iterator.Search.{cmp_from_yields_List}
use Rattle.names.specs.Wire.{lower}
use Rattle.names.proofs.Slices.{ascii_lower}
use Rattle.names.proofs.name.comparing.compare_labels.Goals as goal

pub returns : goal.returns
returns c =
    cmp_from_yields_List {xs = map lower c.args.a.now} {ys = map lower c.args.b.now} (λ u t. t ≡ u) c.map-2.result nat_cmp _ c.cmp.ensures.ran
    (YieldsList-from_map _ lower (YieldsList-from_slice c.args.a.now (search rules)) (search rules) (λ x r q e. search (rules, ascii_lower)))
    (λ it e. YieldsList-from_map _ lower (YieldsList-from_slice c.args.b.now (ap (λ t. t.iter.rest.now) e ∙ search rules)) (ap (λ t. t.f) e ∙ search rules) (λ x r q k. search (rules, ascii_lower)))
    (λ x y. refl)
