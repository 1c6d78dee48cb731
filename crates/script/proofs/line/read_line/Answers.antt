use Rattle.std.proofs.Common.{◌∙◌, inr}
use Rattle.script.proofs.LineSteps.{line_words, no_command}
use Rattle.script.proofs.line.read_line.Goals as goal

pub returns-in_default : goal.returns-in_default
returns-in_default c =
    inr
    (line_words c.args.text.now _ _ _ c.cut.ensures.before c.next_word.ensures
    ∙ no_command c.next_word.result.0.now c.next_word.result.1.now c.in_default.not-empty c.in_default.not-list c.in_default.not-name)
