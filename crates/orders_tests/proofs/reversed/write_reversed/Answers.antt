use Rattle.std.proofs.Common.{◌-◌, length, take, ap, ◌∙◌, arith}
use Rattle.names.specs.View.{octets}
use Rattle.orders_tests.specs.Pieces.{name_length, cut, step, nothing_left}
use Rattle.orders_tests.proofs.reversed.write_reversed.Goals as goal

pub overflow_sub-start : goal.overflow_sub-start
overflow_sub-start c = (cut (octets c.loop-rest.left) _ _ c.octets-octets.result.now c.octets.result.now c.loop-rest.left.whole c.in-Some.ensures c.octets-octets.ensures c.octets.ensures).some

pub slice_bounds-part-end : goal.slice_bounds-part-end
slice_bounds-part-end c = let k = (cut (octets c.loop-rest.left) _ _ c.octets-octets.result.now c.octets.result.now c.loop-rest.left.whole c.in-Some.ensures c.octets-octets.ensures c.octets.ensures).short in omega arith

pub loop-rest-preserved : goal.loop-rest-preserved
loop-rest-preserved c =
    let k = cut (octets c.loop-rest.left) _ _ c.octets-octets.result.now c.octets.result.now c.loop-rest.left.whole c.in-Some.ensures c.octets-octets.ensures c.octets.ensures in
    let p = k.parts in
    let q = k.some in
    let e = ap length c.octets.ensures in
    let start = length c.octets.result.now - 1 in
    let count = length c.octets-octets.result.now - 1 - start in
    let w = step (octets c.loop-rest.left) _ _ c.loop-rest.out c.copy_from_slice.new.self c.make_ascii_lowercase.new.self _ start count count c.loop-rest.left.whole c.in-Some.ensures c.loop-rest.invariant.1 (omega arith) (omega arith) (omega arith) (c.copy_from_slice.ensures.after ∙ ap (take count) c.octets-octets.ensures) c.make_ascii_lowercase.ensures.after c.loop-rest.invariant.0 in
    w

pub overflow_sub-result : goal.overflow_sub-result
overflow_sub-result c =
    let n = name_length (octets c.args.name.now) c.args.name.now.whole in
    let e = ap length c.octets-2.ensures in
    omega arith

pub returns : goal.returns
returns c =
    let n = name_length (octets c.args.name.now) c.args.name.now.whole in
    let e = ap length c.octets-2.ensures in
    record { value = omega arith; buffer = nothing_left (octets c.loop-rest.left) c.loop-rest.out _ c.in_default.ensures c.loop-rest.invariant.0 }
