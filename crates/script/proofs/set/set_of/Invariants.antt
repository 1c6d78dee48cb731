use Rattle.std.proofs.Common.{◌≡◌, cond, drop, Some, None}
use Rattle.names.specs.TypeView.{words}
use Rattle.script.specs.SetText.{have_room, with_all, set_of}
use Rattle.script.proofs.set.set_of.Given as goal

abbrev pub invariant-loop-t : goal.invariant-loop-t
invariant-loop-t l = cond (have_room (drop l.t-index l.types)) (Some (with_all (words l.set) (drop l.t-index l.types))) None ≡ set_of l.types
