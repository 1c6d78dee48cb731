use Rattle.std.proofs.Common.{sym, ◌∙◌, rules}
use Rattle.shelf.proofs.Live.{turned, slots_taken}
use Rattle.shelf.proofs.Shelf.take.Goals as goal

pub returns-clause-slots : goal.returns-clause-slots
returns-clause-slots g c =
    let s = c.args.self.now.slots.now in
    let n = c.args.self.now.count in
    let i = c.args.i in
    turned s _ n i (search rules) (search rules) c.rotate_left.ensures.len c.rotate_left.ensures.by_index ∙ sym (slots_taken s n i (search rules) c.args.self.now.fits)
