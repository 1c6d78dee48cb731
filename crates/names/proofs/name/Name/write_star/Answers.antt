use Rattle.std.proofs.Common.{◌+◌, cond, ◌∷◌, map, length, Some, None, sym, ap, ◌∙◌}
use Rattle.std.proofs.lemmas.Bool.{le-leb, lt-leb}
use Rattle.names.specs.Wire.{lower, written}
use Rattle.names.proofs.Writes.{star_front, wrote_star}
use Rattle.names.proofs.name.Name.write_star.Goals as goal

pub returns-then-n-gt-MAX_STARRED : goal.returns-then-n-gt-MAX_STARRED
returns-then-n-gt-MAX_STARRED c =
    let s = c.args.self.now.octets.now in
    let t = lt-leb (length s) 253 c.if-n-gt-MAX_STARRED.true in
    let v = sym (ap (λ b. cond b (Some (length s + 2)) None) t) in
    let b = sym (ap (λ b. cond b (written (1 ∷ (42 ∷ map lower s)) c.args.out.now) c.args.out.now) t) in
    record { value = v; buffer = b; name = wrote_star _ _ _ _ c.args.self.now.whole v b }

pub returns : goal.returns
returns c =
    let s = c.args.self.now.octets.now in
    let t = le-leb (length s) 253 c.if-n-gt-MAX_STARRED.false in
    let f = star_front s c.args.out.now c.write_front.new.out c.told-out c.if-n-gt-MAX_STARRED.false c.write_front.ensures in
    let v = sym (ap (λ b. cond b (Some (length s + 2)) None) t) in
    let b = f ∙ sym (ap (λ b. cond b (written (1 ∷ (42 ∷ map lower s)) c.args.out.now) c.args.out.now) t) in
    record { value = v; buffer = b; name = wrote_star _ _ _ _ c.args.self.now.whole v b }
