use Rattle.std.proofs.Common.{◌∙◌}
use Rattle.std.proofs.lemmas.Result.{err_from_is_err_and}
use Rattle.script.specs.NameText.{read_name}
use Rattle.script.specs.SetText.{read_set}
use Rattle.script.proofs.LineSteps.{name_words, words_two, types_fault, both_read}
use Rattle.script.proofs.line.read_name_line.Goals as goal

pub returns-in_err-set : goal.returns-in_err-set
returns-in_err-set c =
    let w = name_words c.args.text.now _ _ _ _ _ _ c.next_word.ensures c.next_word-2.ensures c.next_word-3.ensures ∙ words_two c.next_word.result.0.now c.next_word-2.result.0.now c.next_word-3.result.0.now c.if-is_empty.ensures c.if-not-is_empty.ensures in
    let p = err_from_is_err_and c.from_residual-in_err-set.result c.from_residual-in_err-set.ensures.1 in
    rw (p.1, p.2) (types_fault _ _ (read_name c.next_word.result.0.now) (read_set c.next_word-2.result.0.now) _ w c.in_ok-octets.ensures c.in_err-set.ensures)

pub returns : goal.returns
returns c =
    let w = name_words c.args.text.now _ _ _ _ _ _ c.next_word.ensures c.next_word-2.ensures c.next_word-3.ensures ∙ words_two c.next_word.result.0.now c.next_word-2.result.0.now c.next_word-3.result.0.now c.if-is_empty.ensures c.if-not-is_empty.ensures in
    both_read _ (read_name c.next_word.result.0.now) (read_set c.next_word-2.result.0.now) _ _ w c.in_ok-octets.ensures c.in_ok-set.ensures
