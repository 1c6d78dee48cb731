use Rattle.std.proofs.Common.{◌≡◌, ◌∙◌, [], get_or, rules, arith}
use Rattle.std.specs.Simd.{first_chunks}
use Rattle.digests.specs.Sha.{word_at}
use Rattle.digests.proofs.Words.{made_at, chunk_word, words_all}
use Rattle.digests.proofs.sha1.blocks.words_of.Goals as goal

pub returns : goal.returns
returns c =
    let words = c.as_chunks.result.0.now in
    let e : words ≡ first_chunks 4 16 c.args.block.now = search rules in
    words_all c.args.block.now 0 c.from_fn.result c.from_fn.ensures.items.long
    (λ j h. made_at _ (λ i. word_at (get_or words i []) 0) (record { 0 = c.as_chunks.result.0 }) (λ i y q k. search rules) c.from_fn.result 0 16 c.from_fn.ensures.items.each j 0 (omega arith) (omega arith)
    ∙ chunk_word c.args.block.now words 16 j h e)
