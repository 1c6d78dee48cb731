-- Names written to a buffer.
use Rattle.std.proofs.Common.{◌≡◌, ℕ, ◌+◌, ◌<◌, ◌≤◌, true, cond, leb, [], ◌∷◌, ◌++◌, map, length, get_or, take, drop, set, Some, None, Option, sym, ap, ◌∙◌, ap₂, arith}
use borrow.Rule.Slice.PartMut.{put_mid}
use Rattle.std.proofs.lemmas.List.{map_more, drop_more, set_at, append_assoc, length-map, length-take-le, take_all, drop_all, append-nil}
use Rattle.std.proofs.lemmas.Bool.Decides.{nat_tests}
use Rattle.names.specs.Wire.{Octets, lower, wire, is_name, labels_of, written, star_name, Wrote, WroteStar}
use Rattle.names.proofs.Undo.{wire_labels}

-- one octet more
pub lower_more : (s out : Octets) (i : ℕ) → i < length s → i < length out → set (map lower (take i s) ++ drop i out) i (lower (get_or s i 0)) ≡ map lower (take (i + 1) s) ++ drop (i + 1) out
lower_more s out i h k =
    let e : length (map lower (take i s)) ≡ i = length-map (take i s) lower ∙ length-take-le i s (omega arith) in
    ap (λ t. set (map lower (take i s) ++ t) i (lower (get_or s i 0))) (drop_more out i 0 k)
    ∙ set_at (map lower (take i s)) (get_or out i 0) (drop (i + 1) out) (lower (get_or s i 0)) i e
    ∙ sym (append_assoc (map lower (take i s)) (lower (get_or s i 0) ∷ []) (drop (i + 1) out))
    ∙ ap (λ t. t ++ drop (i + 1) out) (sym (map_more lower s i 0 h))

-- all octets are written
pub lower_whole : (s out after : Octets) (i : ℕ) → length s ≤ i → i ≤ length s → after ≡ map lower (take i s) ++ drop i out → after ≡ written (map lower s) out
lower_whole s out after i h k e =
    let n : i ≡ length (map lower s) = let m = length-map s lower in omega arith in
    e ∙ ap₂ (λ u j. map lower u ++ drop j out) (take_all i s h) n

-- the octets of a name are written whole
pub wrote_name : (s before after : Octets) (r : ℕ) → is_name s ≡ true → r ≡ length s → after ≡ written (map lower s) before → Wrote (wire (labels_of s)) before r after
wrote_name s before after r p e f =
    let w = (wire_labels s p).1 in
    record { count = e ∙ sym (ap length w ∙ length-map s lower); buffer = f ∙ ap (λ u. written u before) (sym w) }

-- the star name, before the rest of a buffer
pub star_front : (s out after : Octets) → length out ≡ 255 → length s ≤ 253 → after ≡ written (map lower s) (take 253 (drop 2 (set (set out 0 1) 1 42))) → put_mid 2 253 (set (set out 0 1) 1 42) after ≡ written (1 ∷ (42 ∷ map lower s)) out
star_front s [] after h k e = absurd (omega arith)
star_front s (a ∷ []) after h k e = absurd (omega arith)
star_front s (a ∷ (b ∷ rest)) after h k e =
    let t = take_all 253 rest (omega arith) in
    let d = drop_all 253 rest (omega arith) in
    rw d (ap (λ u. 1 ∷ (42 ∷ (u ++ []))) (e ∙ ap (written (map lower s)) t) ∙ ap (λ u. 1 ∷ (42 ∷ u)) (append-nil (written (map lower s) rest)))

pub wrote_star : (s before after : Octets) (r : Option ℕ) → is_name s ≡ true → r ≡ cond (leb (length s) 253) (Some (length s + 2)) None → after ≡ cond (leb (length s) 253) (written (1 ∷ (42 ∷ map lower s)) before) before → WroteStar (labels_of s) before r after
wrote_star s before after r p e f =
    let w = (wire_labels s p).1 in
    let n = length-map s lower in
    let l : length (wire (star_name (labels_of s))) ≡ length s + 2 = ap (λ u. length (1 ∷ (42 ∷ u))) w ∙ (let m = n in omega arith) in
    let t : leb (length (wire (star_name (labels_of s)))) 255 ≡ leb (length s) 253 = rw l (grind (arith, nat_tests)) in
    let b : written (wire (star_name (labels_of s))) before ≡ written (1 ∷ (42 ∷ map lower s)) before = ap (λ u. written (1 ∷ (42 ∷ u)) before) w in
    record { count = e ∙ sym (ap₂ (λ g k. cond g (Some k) None) t l); buffer = f ∙ sym (ap₂ (λ g u. cond g u before) t b) }
