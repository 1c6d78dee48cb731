use Rattle.std.proofs.Common.{◌≡◌, ◌-◌, length, take, drop, string_bytes, ◌∙◌, arith, ltb-false}
use Rattle.script.specs.TypeText.{types_text}
use Rattle.script.proofs.TypeRound.{some_text, further_end, types_back}
use Rattle.script.proofs.types.types_text.Goals as goal

pub returns : goal.returns
returns c =
    let ts = c.args.types.now in
    let e : string_bytes c.loop-t.text ≡ types_text ts =
    further_end c.loop-t.t-index (take (length ts - 1) (drop 1 ts)) (string_bytes c.loop-t.text) (omega arith)
    ∙ c.loop-t.invariant
    ∙ some_text ts (string_bytes c.in_ok-text.text) (omega (arith, ltb-false)) c.in_ok-text.ensures.ok
    in
    record { text = e; reads_back = types_back ts _ (λ i. omega (arith, c.type_inv.types i)) e }
