use Rattle.std.proofs.Common.{◌≡◌, true, arith, rules}
use Rattle.std.proofs.lemmas.List.{same_lists, places, get_or-set_same}
use Rattle.std.proofs.lemmas.Bool.{cases_eq}
use Rattle.std.proofs.lemmas.Bool.Decides.{nat_tests}
use Rattle.shelf.specs.Entries.{can_put}
use Rattle.shelf.proofs.Shelf.put.Goals as goal

pub returns-clause-slots : goal.returns-clause-slots
returns-clause-slots g c =
    let t : can_put c.args.self.now.slots.now c.args.self.now.count c.args.i ≡ true = grind (arith, nat_tests) in
    rw t (same_lists _ _ (search (rules, places)) (λ k d h. let e = c.rotate_right.ensures.after in grind (arith, places, get_or-set_same, cases_eq k c.args.i)))
