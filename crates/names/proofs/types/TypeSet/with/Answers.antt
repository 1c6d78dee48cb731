use Rattle.std.proofs.Common.{◌≡◌, ◌/◌, ◌≤◌, length, get_or, set, sym, ap, ◌∙◌, arith}
use lib.Bits.{bit_or}
use Rattle.names.specs.Types.{width, has, with}
use Rattle.names.proofs.TypeLaws.{has_with, with_past}
use Rattle.names.proofs.types.TypeSet.with.Goals as goal

pub returns-then-i-lt-WORDS : goal.returns-then-i-lt-WORDS
unfolding with
returns-then-i-lt-WORDS c =
    let ws = c.args.self.now.words in
    let i = c.from-i.result in
    let full : length ws ≡ width = omega arith in
    let value : set ws i (bit_or (get_or ws i 0) c.mask_of.result) ≡ with ws c.args.t = cc in
    record { value = value; members = λ u. ap (λ s. has s u) value ∙ has_with ws c.args.t u full }

pub returns-else-i-lt-WORDS : goal.returns-else-i-lt-WORDS
returns-else-i-lt-WORDS c =
    let ws = c.args.self.now.words in
    let full : length ws ≡ width = omega arith in
    let past : length ws ≤ c.args.t / 8 = omega arith in
    let value = sym (with_past ws c.args.t past) in
    record { value = value; members = λ u. ap (λ s. has s u) value ∙ has_with ws c.args.t u full }
