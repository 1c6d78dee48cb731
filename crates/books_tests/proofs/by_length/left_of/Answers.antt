use Rattle.std.proofs.Common.{sym, ◌∙◌, arith}
use Rattle.table.specs.Ranks.{entries_in}
use Rattle.books_tests.proofs.Paying.{paid_more, rest_none}
use Rattle.books_tests.proofs.by_length.left_of.Goals as goal

pub returns-in_err-left : goal.returns-in_err-left
returns-in_err-left c =
    let i = c.loop-entry.invariant in
    let m = paid_more c.args.entries.now c.loop-entry.entry-index c.entry-item.result c.octets.result.now _ c.loop-entry-test.true c.entry-item.is c.octets.ensures c.name.ensures.name c.name.ensures.labels in
    let n = c.in_err-left.ensures in
    c.from_residual.ensures ∙ sym (rest_none c.args.octets (entries_in c.args.entries.now) (omega arith))

pub loop-entry-preserved : goal.loop-entry-preserved
loop-entry-preserved c =
    let i = c.loop-entry.invariant in
    let m = paid_more c.args.entries.now c.loop-entry.entry-index c.entry-item.result c.octets.result.now _ c.loop-entry-test.true c.entry-item.is c.octets.ensures c.name.ensures.name c.name.ensures.labels in
    let n = c.in_ok-left.ensures in
    let n0 = n.0 in
    let n1 = n.1 in
    omega arith
