use Rattle.std.specs.Ordering.{nat_cmp, ordering_then}
use Rattle.std.proofs.Common.{sym, ◌∙◌, ap₂}
use Rattle.names.specs.View.{labels}
use Rattle.names.proofs.Steps.{level_names}
use Rattle.names.proofs.name.comparing.meet.Goals as goal

pub returns : goal.returns
returns c =
    let l = level_names (labels c.args.a.now) (labels c.args.b.now) _ _ _ _ _ c.label_count-m.ensures.value c.label_count-n.ensures.value c.min-fewer.ensures c.without.ensures.labels c.without-2.ensures.labels in
    record {
      shared = c.meet_level-shared.ensures.shared ∙ sym l.shares;
      order =
          c.then.ensures
          ∙ ap₂ ordering_then c.meet_level-shared.ensures.order (c.cmp.ensures ∙ ap₂ nat_cmp c.label_count-m.ensures.value c.label_count-n.ensures.value)
          ∙ sym l.orders;
    }
