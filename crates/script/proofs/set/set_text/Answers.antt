use Rattle.std.proofs.Common.{◌≡◌, length, true, sym, rules, Some, string_bytes, ap, ◌∙◌}
use Rattle.std.proofs.lemmas.Result.{IfOk-weaker}
use Rattle.names.specs.TypeView.{words}
use Rattle.names.specs.Types.{width}
use Rattle.script.specs.NameText.{are_octets}
use Rattle.script.specs.TypeText.{types_text}
use Rattle.script.proofs.SetSteps.{text_back}
use Rattle.script.proofs.set.set_text.Goals as goal

pub returns : goal.returns
returns c =
    let e = c.deref.ensures.value ∙ c.in_ok-types.ensures in
    let w : length (words c.args.set.now) ≡ width = search rules in
    let o : are_octets (words c.args.set.now) ≡ true = ap are_octets (sym c.to_octets.ensures.value) ∙ c.octets_fit.ensures in
    record {
      text = IfOk-weaker c.types_text.result _ _ (λ s p. p ∙ ap types_text e) c.types_text.ensures.text;
      reads_back = IfOk-weaker c.types_text.result _ _ (λ s p. text_back (words c.args.set.now) (string_bytes s) w o (p ∙ ap Some e)) c.types_text.ensures.reads_back;
    }
