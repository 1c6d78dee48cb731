use Rattle.std.proofs.Common.{◌≡◌, ◌+◌, ◌-◌, ◌/◌, ◌≤◌, ◌++◌, length, take, set, ap, ◌∙◌, arith, rules}
use borrow.Rule.Slice.PartMut.{put_mid}
use Rattle.std.specs.Simd.{first_chunks}
use Rattle.digests.specs.Sha.{run, zeros, ending}
use Rattle.digests.proofs.Joins.{run_chunks}
use Rattle.digests.proofs.Lays.{end_laid}
use Rattle.digests.proofs.sha1.blocks.Joined.finish.Goals as goal
use Rattle.digests.proofs.sha1.blocks.Joined.finish.Goals.{then-n-lt-ROOM, else-n-lt-ROOM}

pub returns : goal.returns
returns c =
    let n = c.len-n.result in
    let end = c.if-n-lt-ROOM.end in
    let ends : (n + 9 + zeros n ≡ end) × (end ≤ 128) = elim c.if-n-lt-ROOM.branch [ then-n-lt-ROOM w ↦ (omega arith, omega arith) | else-n-lt-ROOM w ↦ (omega arith, omega arith) ] in
    let x = take (end - 0) (put_mid (end - 8) (end - (end - 8)) (set c.lay.new.out n 128) c.copy_from_slice.new.self) in
    let e : x ≡ c.args.self.now ++ ending (length c.args.self.now) c.args.bits =
    end_laid c.args.self.now _ _ n end (end - 0) (end - (end - 8)) c.args.bits (omega arith) c.len-n.ensures ends.0 ends.1 c.lay.ensures (c.copy_from_slice.ensures.after ∙ c.to_be_bytes.ensures) in
    let f : c.as_chunks.result.0.now ≡ first_chunks 64 (length x / 64) x = search rules in
    c.absorb.ensures ∙ run_chunks c.args.s x c.as_chunks.result.0.now f ∙ ap (run c.args.s) e
