use Rattle.table.proofs.Tabling.{take_all_of}
use Rattle.table.proofs.Table.remove.Goals as goal

pub invariant_of-self : goal.invariant_of-self
invariant_of-self c =
    let a = take_all_of _ _ _ _ _ c.args.name.now _ c.args.self.now.shelf.fits c.args.self.now.sorted c.in_ok-name.ensures.octets c.in-Ok.ensures c.take.ensures.slots c.take.ensures.count in
    record { sorted = a.shrunk.sorted }

pub returns : goal.returns
returns c =
    let a = take_all_of _ _ _ _ _ c.args.name.now _ c.args.self.now.shelf.fits c.args.self.now.sorted c.in_ok-name.ensures.octets c.in-Ok.ensures c.take.ensures.slots c.take.ensures.count in
    record { answer = a.done.answer; kept = a.done.kept; held = a.done.held; slots = a.shrunk.slots }
