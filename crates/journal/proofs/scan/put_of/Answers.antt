use Rattle.std.proofs.Common.{◌≡◌, ℕ, ◌<◌, ◌≤◌, true, false, length, get_or, sym, ap, ◌∙◌, arith, rules}
use Rattle.std.proofs.iter.runs.Made.{chains}
use Rattle.std.specs.Bool.{then_some}
use Rattle.std.specs.Option.{option_map}
use Rattle.names.specs.View.{labels}
use Rattle.books.specs.Answers.{some}
use Rattle.journal.specs.Notes.{entry_at}
use Rattle.journal.specs.View.{shown}
use Rattle.journal.proofs.Places.{names_it, mentions_none, newest_here, never_noted}
use Rattle.journal.specs.declared.note.Note.{Note}
use Rattle.journal.proofs.scan.put_of.Goals as goal

pub returns-in_err-i : goal.returns-in_err-i
returns-in_err-i c =
    let n = labels c.args.name.now in
    let ns = c.args.notes.now in
    let none : (k : ℕ) (d : Note) → 0 ≤ k → k < length ns → names_it n (get_or ns k d) ≡ false = (λ k d b l. search (rules, chains)) in
    ap (option_map (entry_at (shown ns))) c.from_residual.ensures ∙ sym (ap some (never_noted n ns (mentions_none n ns 0 none)))

pub returns : goal.returns
returns c =
    let n = labels c.args.name.now in
    let ns = c.args.notes.now in
    let i = c.in_ok-i.i in
    let x = c.index-notes-i.result in
    let later : (k : ℕ) (d : Note) → i < k → k < length ns → names_it n (get_or ns k d) ≡ false = (λ k d b l. search (rules, chains)) in
    let here : (d : Note) → names_it n (get_or ns i d) ≡ true = (λ d. search (rules, chains)) in
    newest_here n ns i x c.then_some.result (search rules) c.index-notes-i.is (ap (names_it n) c.index-notes-i.is ∙ here x) (mentions_none n ns _ (λ k d l m. later k d (omega arith) m)) (c.then_some.ensures ∙ ap (λ b. then_some b i) c.is_put.ensures)
