use Rattle.std.proofs.Common.{◌∙◌}
use Rattle.std.proofs.lemmas.List.{append_assoc}
use Rattle.std.proofs.lemmas.Result.{IfOk-weaker}
use Rattle.script.proofs.record.entry_line.Goals as goal

pub returns : goal.returns
returns c =
    IfOk-weaker c.format.result _ _ (λ s p. p ∙ rw (c.in_ok-name.ensures.text, c.in_ok-types.ensures.text) (simp append_assoc)) c.format.ensures.ok
