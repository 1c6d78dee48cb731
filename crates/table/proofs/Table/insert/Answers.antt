use Rattle.std.proofs.Common.{cond, Ok, Err, sym, ap, ◌∙◌}
use Rattle.names.specs.declared.refusal.Refusal.TheVariants.{BookFull}
use Rattle.table.proofs.Tabling.{put_all_of}
use Rattle.table.proofs.Table.insert.Goals as goal

pub invariant_of-self : goal.invariant_of-self
invariant_of-self c =
    let a = put_all_of _ _ _ _ _ _ _ _ _ _ c.args.self.now.shelf.fits c.args.self.now.sorted c.in_ok-entry.ensures.contents c.in_ok-entry.ensures.entry c.name.ensures.labels c.in-Err.ensures c.put.ensures.answer c.put.ensures.slots c.put.ensures.count in
    record { sorted = a.grown.sorted }

pub returns-then-put : goal.returns-then-put
returns-then-put c =
    let a = put_all_of _ _ _ _ _ _ _ _ _ _ c.args.self.now.shelf.fits c.args.self.now.sorted c.in_ok-entry.ensures.contents c.in_ok-entry.ensures.entry c.name.ensures.labels c.in-Err.ensures c.put.ensures.answer c.put.ensures.slots c.put.ensures.count in
    record { answer = sym (ap (λ b. cond b (Ok tt) (Err BookFull)) c.if-put.true) ∙ a.done.answer; kept = a.done.kept; held = a.done.held; slots = a.grown.slots }

pub returns-else-put : goal.returns-else-put
returns-else-put c =
    let a = put_all_of _ _ _ _ _ _ _ _ _ _ c.args.self.now.shelf.fits c.args.self.now.sorted c.in_ok-entry.ensures.contents c.in_ok-entry.ensures.entry c.name.ensures.labels c.in-Err.ensures c.put.ensures.answer c.put.ensures.slots c.put.ensures.count in
    record { answer = sym (ap (λ b. cond b (Ok tt) (Err BookFull)) c.if-put.false) ∙ a.done.answer; kept = a.done.kept; held = a.done.held; slots = a.grown.slots }
