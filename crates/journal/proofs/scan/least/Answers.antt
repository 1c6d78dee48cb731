use Rattle.std.proofs.Common.{ap, ◌∙◌}
use Rattle.books.specs.Answers.{some}
use Rattle.books.specs.Held.{entry_of, entry_after}
use Rattle.journal.specs.Notes.{held_by, entry_at}
use Rattle.journal.specs.Rising.{notes_names, notes_rise}
use Rattle.journal.specs.View.{shown}
use Rattle.journal.proofs.Root.{root_read, root_labels, least_root, least_other}
use Rattle.journal.proofs.scan.least.Goals as goal

pub unwrap-root-requires : goal.unwrap-root-requires
unwrap-root-requires c = root_read c.read.result c.read.ensures.labels

pub returns-in-Some : goal.returns-in-Some
returns-in-Some c =
    let r = root_labels c.read.result c.unwrap-root.result c.read.ensures.labels c.unwrap-root.ensures in
    least_root (held_by (shown c.args.notes.now)) (entry_at (shown c.args.notes.now) c.in-Some.i) (notes_rise (shown c.args.notes.now) (notes_names c.args.notes.now))
    (c.in-Some.ensures ∙ ap (λ n. some (entry_of n (held_by (shown c.args.notes.now)))) r)

pub returns-in-None : goal.returns-in-None
returns-in-None c =
    let r = root_labels c.read.result c.unwrap-root.result c.read.ensures.labels c.unwrap-root.ensures in
    let o = least_other (held_by (shown c.args.notes.now)) (notes_rise (shown c.args.notes.now) (notes_names c.args.notes.now))
    (c.in-None.ensures ∙ ap (λ n. some (entry_of n (held_by (shown c.args.notes.now)))) r) in
    c.least_after.ensures ∙ ap (λ n. some (entry_after n (held_by (shown c.args.notes.now)))) r ∙ ap some o
