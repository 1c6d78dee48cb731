use Rattle.std.proofs.Common.{length, ap, ◌∙◌, ap₂, arith}
use Rattle.std.proofs.lemmas.List.{length-take-le}
use Rattle.shelf.proofs.Live.{take_all}
use Rattle.shelf.specs.Entries.{live}
use Rattle.journal.proofs.journal.Journal.remove.Goals as goal

pub returns : goal.returns
returns c =
    let s = c.args.self.now.shelf in
    let m = length-take-le s.count s.slots.now s.fits in
    let p = take_all s.slots.now s.count c.args.i (omega arith) s.fits in
    record {
      notes = ap₂ live c.take.ensures.slots c.take.ensures.count ∙ p.entries;
      slots = ap length c.take.ensures.slots ∙ p.slots;
    }
