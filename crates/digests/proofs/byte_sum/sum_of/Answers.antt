use Rattle.std.proofs.Common.{◌≡◌, ◌+◌, ◌%◌, refl, ◌∙◌, arith, rules}
use Rattle.std.specs.List.{fold}
use Rattle.std.proofs.lemmas.List.Folds.{fold_along}
use Rattle.digests.proofs.byte_sum.sum_of.Goals as goal

pub returns : goal.returns
returns c =
    let e : c.fold.result ≡ fold (λ t b. (t + b) % 256) 0 c.args.s.now = search rules in
    e ∙ fold_along (λ t b. (t + b) % 256) (λ t b. t + b) (λ t n. t ≡ n % 256) (λ t n b h. omega arith) 0 0 c.args.s.now refl
