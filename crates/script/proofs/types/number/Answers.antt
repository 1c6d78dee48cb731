use Rattle.std.proofs.Common.{sym, ◌∙◌, arith}
use Rattle.std.proofs.lemmas.Str.Parse.{parse_digits}
use Rattle.script.proofs.TypeSteps.{own, parsed}
use Rattle.script.proofs.types.number.Goals as goal

pub returns : goal.returns
returns c =
    let s = c.args.text.now in
    let d = sym c.if-not-are_digits.ensures in
    c.ok.ensures.value ∙ parsed s c.parse.result (parse_digits own 16 s c.parse.result c.parse.ensures.value.0 d) (omega arith) d
