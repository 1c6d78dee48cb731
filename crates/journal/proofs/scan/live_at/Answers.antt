use Rattle.std.proofs.Common.{Some, sym, ap, ◌∙◌, cond, None}
use Rattle.books.specs.Stored.{entry_in}
use Rattle.names.specs.View.{labels}
use Rattle.journal.proofs.Places.{entry_put, entry_take}
use Rattle.journal.proofs.scan.live_at.Goals.{in_default-via-in-Put+else-not-is_mentioned, in_default-via-in_default}
use Rattle.journal.proofs.scan.live_at.Goals as goal

pub returns-in-Put : goal.returns-in-Put
returns-in-Put c =
    let x = c.in_ok-named.field-0.now in
    let l = c.in_ok-named.ensures.lookup in
    let e = entry_put c.args.notes.now c.args.i x c.in-Put.named (labels c.name.result) c.is_mentioned.result l.3.0 l.1 c.in-Put.is c.name.ensures.labels c.is_mentioned.ensures in
    sym (e ∙ ap (λ b. cond b None (Some (entry_in c.in-Put.named))) c.if-not-is_mentioned.true)

pub returns-in_default : goal.returns-in_default
returns-in_default c =
    let x = c.in_ok-named.field-0.now in
    let l = c.in_ok-named.ensures.lookup in
    elim c.in_default.branch [
      | in_default-via-in-Put+else-not-is_mentioned w ↦ sym (entry_put c.args.notes.now c.args.i x w.in-Put.named (labels w.name.result) w.is_mentioned.result l.3.0 l.1 w.in-Put.is w.name.ensures.labels w.is_mentioned.ensures ∙ ap (λ b. cond b None (Some (entry_in w.in-Put.named))) w.if-not-is_mentioned.false)
      | in_default-via-in_default w ↦ sym (entry_take c.args.notes.now c.args.i x w.in_default.field-0 l.3.0 l.1 w.in_default.is)
    ]
