use Rattle.std.proofs.Common.{sym, refl, ◌∙◌, arith}
use Rattle.std.proofs.lemmas.Bool.Decides.{nat_tests}
use Rattle.names.specs.Wire.{is_name}
use Rattle.names.proofs.Reader.{ends_first, ends_none, only_zero}
use Rattle.names.proofs.Undo.{wire_and_parse}
use Rattle.names.proofs.name.Name.read.Goals as goal

pub returns-then-octets-gt-MAX_NAME : goal.returns-then-octets-gt-MAX_NAME
unfolding is_name
returns-then-octets-gt-MAX_NAME c = record { octets = grind (arith, nat_tests); labels = grind (arith, nat_tests); refused = refl; undo = wire_and_parse }

pub loop-rest-preserved : goal.loop-rest-preserved
loop-rest-preserved c = sym (ends_first c.loop-rest.left.now _ _ (sym c.in-Some.ensures)) ∙ c.loop-rest.invariant

pub returns-in_default-left : goal.returns-in_default-left
unfolding is_name
returns-in_default-left c =
    let e = ends_none c.loop-rest.left.now (sym c.in_default.ensures) in
    let z = only_zero c.loop-rest.left.now in
    record { octets = grind (arith, nat_tests); labels = grind (arith, nat_tests); refused = refl; undo = wire_and_parse }

pub invariant_of-result : goal.invariant_of-result
unfolding is_name
invariant_of-result c =
    let e = ends_none c.loop-rest.left.now (sym c.in_default.ensures) in
    let z = only_zero c.loop-rest.left.now in
    record { whole = grind (arith, nat_tests) }

pub returns-clause-undo : goal.returns-clause-undo
returns-clause-undo c = wire_and_parse
