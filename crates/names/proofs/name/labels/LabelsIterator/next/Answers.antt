use Rattle.std.proofs.Common.{length, sym, ap, arith}
use Rattle.names.proofs.Reader.{labels_first, labels_none}
use Rattle.names.proofs.name.labels.LabelsIterator.next.Goals as goal

pub returns-in_err-label-clause-steps : goal.returns-in_err-label-clause-steps
returns-in_err-label-clause-steps c =
    let e = labels_none _ (sym c.in_err-label.ensures) in
    rw c.from_residual.ensures (e, e)

pub returns-clause-steps : goal.returns-clause-steps
returns-clause-steps c = labels_first _ _ _ (sym c.in_ok-label.ensures)

pub returns-clause-goes : goal.returns-clause-goes
returns-clause-goes c =
    let e = ap length (labels_first c.args.self.now.left.octets.now _ _ (sym c.in_ok-label.ensures)) in
    record { on = λ _. (tt, tt, omega (arith, e)); keeps = tt; rests = λ _. tt }
