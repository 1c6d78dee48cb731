use Rattle.std.proofs.Common.{◌≡◌, true, sym, ap, ◌∙◌}
use Rattle.std.proofs.lemmas.Result.{IfOk-weaker}
use Rattle.names.specs.View.{octets}
use Rattle.names.specs.Wire.{labels_of}
use Rattle.script.specs.NameText.{are_octets}
use Rattle.script.proofs.NamePrint.{some_labels, name_back}
use Rattle.script.proofs.name.name_text.Goals as goal

pub returns : goal.returns
returns c =
    let o = octets c.args.name.now in
    let b : are_octets o ≡ true = ap are_octets (sym c.octets.ensures) ∙ c.octets_fit.ensures in
    let q = some_labels (labels_of o) (λ z. c.if-label_count-eq0.false (c.label_count.ensures.value ∙ z)) in
    let m = c.labels_text.ensures in
    record {
      text = IfOk-weaker c.labels_text.result _ _ (λ t p. p ∙ q) m;
      reads_back = IfOk-weaker c.labels_text.result _ _ (λ t p. name_back o _ b (p ∙ q)) m;
    }
