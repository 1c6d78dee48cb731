use Rattle.std.proofs.Common.{take, drop, rules}
use Rattle.std.proofs.lemmas.Iterator.{YieldsList-from_slice}
use Rattle.std.proofs.lemmas.Iterator.Consumers.{fold_from_yields_List}
use Rattle.digests.specs.Runs.{choosing, parting, majoring}
use Rattle.digests.proofs.Steps.{all_rounds}
use Rattle.digests.proofs.sha1.rounds.run_all.Goals as goal

pub returns : goal.returns
returns c =
    let w1 = c.advance-w1.result in
    let w2 = c.advance-w2.result in
    let w3 = c.advance-w3.result in
    let w4 = c.advance.result in
    all_rounds c.args.s _ _ _ _ _ _ _ _ c.args.block w1 w2 w3 w4 (search rules)
    c.advance-w1.ensures c.advance-w2.ensures c.advance-w3.ensures c.advance.ensures
    (fold_from_yields_List _ choosing c.args.s c.fold-x0.result c.fold-x0.ensures.ran (YieldsList-from_slice c.args.block c.iter.ensures.rest) (λ a x b q k. search rules))
    (fold_from_yields_List _ choosing c.fold-x0.result c.fold-x1.result c.fold-x1.ensures.ran (YieldsList-from_slice (take 4 w1) c.iter-2.ensures.rest) (λ a x b q k. search rules))
    (fold_from_yields_List _ (parting 0x6ed9eba1) c.fold-x1.result c.fold-x2.result c.fold-x2.ensures.ran (YieldsList-from_slice (take 12 (drop 4 w1)) c.iter-3.ensures.rest) (λ a x b q k. search rules))
    (fold_from_yields_List _ (parting 0x6ed9eba1) c.fold-x2.result c.fold-x3.result c.fold-x3.ensures.ran (YieldsList-from_slice (take 8 w2) c.iter-4.ensures.rest) (λ a x b q k. search rules))
    (fold_from_yields_List _ majoring c.fold-x3.result c.fold-x4.result c.fold-x4.ensures.ran (YieldsList-from_slice (take 8 (drop 8 w2)) c.iter-5.ensures.rest) (λ a x b q k. search rules))
    (fold_from_yields_List _ majoring c.fold-x4.result c.fold-x5.result c.fold-x5.ensures.ran (YieldsList-from_slice (take 12 w3) c.iter-6.ensures.rest) (λ a x b q k. search rules))
    (fold_from_yields_List _ (parting 0xca62c1d6) c.fold-x5.result c.fold-x6.result c.fold-x6.ensures.ran (YieldsList-from_slice (take 4 (drop 12 w3)) c.iter-7.ensures.rest) (λ a x b q k. search rules))
    (fold_from_yields_List _ (parting 0xca62c1d6) c.fold-x6.result c.fold.result c.fold.ensures.ran (YieldsList-from_slice w4 c.iter-8.ensures.rest) (λ a x b q k. search rules))
