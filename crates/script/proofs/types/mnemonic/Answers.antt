use Rattle.std.proofs.Common.{rules, ap, map, ◌∙◌, refl}
use Rattle.std.proofs.lemmas.Iterator.{YieldsList-from_slice}
use Rattle.std.proofs.lemmas.Iterator.Search.{find_from_yields_List}
use Rattle.script.specs.Reads.{row}
use Rattle.script.specs.TypeText.{mnemonics, named}
use Rattle.script.proofs.TypeSteps.{is_word, tested, named_by}
use Rattle.script.proofs.types.mnemonic.Goals as goal

pub returns : goal.returns
unfolding mnemonics
returns c =
    let s = c.args.text.now in
    let f = find_from_yields_List (is_word s) _ _ c.find.result c.find.ensures.ran (YieldsList-from_slice c.iter.result.rest.now refl) (λ x b q k. (search rules, tested s x.now b (search rules))) in
    named_by s c.iter.result.rest.now c.find.result c.map.result (search rules) f ∙ ap (λ t. named s (map row t)) c.iter.ensures.rest
