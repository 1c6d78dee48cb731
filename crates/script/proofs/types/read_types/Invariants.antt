use Rattle.std.proofs.Common.{◌≡◌, [], length, drop, vec_items}
use Rattle.script.specs.NameText.{before}
use Rattle.script.specs.TypeText.{read_pieces}
use Rattle.script.proofs.TypeSteps.{pieces, read_all}
use Rattle.script.proofs.types.read_types.Given as goal

abbrev pub invariant-loop-piece : goal.invariant-loop-piece
invariant-loop-piece l = record {
  can_next : (goal.iterator-loop-piece).can_next l.piece-iterator;
  is_finite : (goal.iterator-loop-piece).is_finite l.piece-iterator;
  so_far : before (vec_items l.types) (read_all (drop (length l.yielded) (pieces l.fn.text))) ≡ read_pieces [] l.fn.text;
}
