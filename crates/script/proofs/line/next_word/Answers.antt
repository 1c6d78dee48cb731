use Rattle.script.proofs.LineSteps.{word_trimmed}
use Rattle.script.proofs.line.next_word.Goals as goal

pub returns : goal.returns
returns c = word_trimmed c.args.text.now c.trim_start_matches.result.now _ _ c.trim_start_matches.ensures.matches c.cut.ensures.before c.cut.ensures.after
