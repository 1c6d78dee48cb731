use Rattle.std.proofs.Common.{◌++◌, length, vec_items, sym, ap, ◌∙◌, arith}
use Rattle.std.specs.Option.{option_map}
use Rattle.std.proofs.lemmas.List.{map_push}
use Rattle.names.specs.TypeView.{words}
use Rattle.books.specs.Answers.{some}
use Rattle.books.specs.Held.{first_entry}
use Rattle.listing.specs.Rows.{entry_in, entries_in, from_slot, shown_by}
use Rattle.listing.proofs.Walk.{from_first, Turn, turn_at}
use Rattle.listing.proofs.rows.Given as given
use Rattle.listing.proofs.rows.Goals as goal

pub loop-slot-init : goal.loop-slot-init
loop-slot-init g c =
    let f = from_first (g.B.Book.held c.args.book.now) _ c.first-slot.ensures in (
      ap (λ rs. entries_in rs ++ from_slot (option_map (g.B.Book.entry c.args.book.now) c.first-slot.result) (g.B.Book.held c.args.book.now)) c.new-rows.ensures.items ∙ f,
      c.first-slot.ensures ∙ ap (λ hs. some (first_entry hs)) (sym f),
    )

-- the turn that the loop makes
made : (g : given.Over) (c : goal.In_ok-push g) → Turn (entries_in (vec_items c.loop-slot.rows)) (entry_in c.in-Some-2.row) (option_map (g.B.Book.entry c.args.book.now) c.slot_after-slot.result) (g.B.Book.held c.args.book.now) (g.B.Book.entry c.args.book.now c.in-Some.s)
made g c =
    turn_at (g.B.Book.entry c.args.book.now) c.loop-slot.slot c.slot_after-slot.result c.in-Some.s (entries_in (vec_items c.loop-slot.rows)) (g.B.Book.held c.args.book.now) (vec_items c.in-Some-2.row.octets) c.deref.result.now (words c.in-Some-2.row.types)
    c.in-Some.is
    (g.B.Book.rising c.args.book.now)
    c.loop-slot.invariant.0
    c.loop-slot.invariant.1
    (sym (ap (option_map shown_by) c.in-Some-2.is) ∙ c.in_ok-row.ensures)
    c.deref.ensures.value
    c.slot_after-slot.ensures

pub loop-slot-smaller : goal.loop-slot-smaller
loop-slot-smaller g c =
    let m = (made g c).fewer in
    let e = ap (λ o. length (from_slot (option_map (g.B.Book.entry c.args.book.now) o) (g.B.Book.held c.args.book.now))) c.in-Some.is in
    omega arith

pub loop-slot-preserved : goal.loop-slot-preserved
loop-slot-preserved g c =
    let t = made g c in
    let f = ap entries_in c.in_ok-push.ensures.items ∙ map_push entry_in (vec_items c.loop-slot.rows) c.in-Some-2.row in
    (ap (λ rs. rs ++ from_slot (option_map (g.B.Book.entry c.args.book.now) c.slot_after-slot.result) (g.B.Book.held c.args.book.now)) f ∙ t.again, t.first)
