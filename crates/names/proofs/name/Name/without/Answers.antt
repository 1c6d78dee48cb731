use Rattle.std.proofs.Common.{sym, ap, ◌∙◌, arith}
use Rattle.std.proofs.lemmas.List.{drop_all}
use Rattle.names.specs.Wire.{after_label, parent_of}
use Rattle.names.specs.View.{labels, octets}
use Rattle.names.proofs.Reader.{up_once, no_way_up, after_more, some_same}
use Rattle.names.proofs.name.Name.without.Goals as goal

pub returns-in_default : goal.returns-in_default
returns-in_default c =
    let h = no_way_up c.loop.counter (labels c.args.self.now) (c.in_default.ensures.labels ∙ ap parent_of c.loop.invariant.0) in
    let d = drop_all c.loop.counter (labels c.args.self.now) h in
    let e = drop_all c.args.k (labels c.args.self.now) (omega arith) in
    record { labels = c.loop.invariant.0 ∙ d ∙ sym e; octets = λ k. absurd (omega arith) }

pub loop-preserved : goal.loop-preserved
loop-preserved c =
    let u = up_once c.loop.counter (labels c.args.self.now) (labels c.in-Some.up) (c.in-Some.ensures.labels ∙ ap parent_of c.loop.invariant.0) in
    let a = after_more c.loop.counter (octets c.args.self.now) in
    (u, some_same _ _ c.in-Some.ensures.octets ∙ ap after_label c.loop.invariant.1 ∙ a)
