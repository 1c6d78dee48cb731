-- What a block holds once octets are copied into it.
use Rattle.std.proofs.Common.{◌≡◌, ℕ, suc, ◌+◌, ◌-◌, ◌≤◌, List, ◌∷◌, ◌++◌, length, take, drop, set, replicate, sym, ap, ◌∙◌, append_assoc, append-nil, arith}
use borrow.Rule.Slice.PartMut.{put_mid}
use Rattle.digests.specs.Sha.{ending, zeros, long}
use Rattle.std.proofs.lemmas.List.{length-append, length-replicate, drop_all, drop-replicate, replicate-append-replicate, set_at, take_at}
use Rattle.std.proofs.lemmas.Slice.{take-put_mid}

-- a whole block
pub block_laid : (m y : List ℕ) → length m ≡ 64 → y ≡ m ++ drop (length m) (replicate 64 0) → y ≡ m
block_laid m y l e =
    let r = length-replicate {A = ℕ} 64 0 in
    e ∙ ap (λ t. m ++ t) (drop_all (length m) (replicate 64 0) (omega arith)) ∙ append-nil m

-- k zeros without the first n: one for the bit, z of the padding, and t more
zeros_behind : (k n z t : ℕ) → n + 1 + z + t ≡ k → drop {A = ℕ} n (replicate k 0) ≡ 0 ∷ (replicate z 0 ++ replicate t 0)
zeros_behind k n z t h =
    let e : k - n ≡ suc (z + t) = omega arith in
    drop-replicate n k 0 ∙ ap (λ m. replicate m 0) e ∙ ap (λ r. 0 ∷ r) (sym (replicate-append-replicate z t 0))

-- the last blocks: what is left of the message, the bit, and the length before the end
pub end_laid : (m y z : List ℕ) (n end i k bits : ℕ) → i ≡ end → n ≡ length m → n + 9 + zeros n ≡ end → end ≤ 128 → y ≡ m ++ drop (length m) (replicate 128 0) → z ≡ long bits
    → take i (put_mid (end - 8) k (set y n 128) z) ≡ m ++ ending (length m) bits
end_laid m y z n end i k bits ei en ez et ey e₃ =
    let lr = length-replicate {A = ℕ} (zeros n) 0 in
    let t : ℕ = 136 - end in
    let p : List ℕ = m ++ (128 ∷ replicate (zeros n) 0) in
    let d : y ≡ m ++ (0 ∷ (replicate (zeros n) 0 ++ replicate t 0)) = ey ∙ ap (λ z. m ++ z) (zeros_behind 128 (length m) (zeros n) t (omega arith)) in
    let st : set y n 128 ≡ p ++ replicate t 0 =
    ap (λ z. set z n 128) d ∙ set_at m 0 (replicate (zeros n) 0 ++ replicate t 0) 128 n (sym en) ∙ sym (append_assoc m (128 ∷ replicate (zeros n) 0) (replicate t 0)) in
    let lp : length p ≡ end - 8 = length-append m (128 ∷ replicate (zeros n) 0) ∙ omega arith in
    let l3 : length z ≡ 8 = ap length e₃ in
    let lq : end - 8 ≤ length (p ++ replicate t 0) = omega (arith, length-append p (replicate t 0)) in
    ap (λ j. take j (put_mid (end - 8) k (set y n 128) z)) ei
    ∙ ap (λ x. take end (put_mid (end - 8) k x z)) st
    ∙ take-put_mid (end - 8) k (p ++ replicate t 0) z end (omega arith) lq
    ∙ ap (λ x. x ++ z) (take_at p (replicate t 0) (end - 8) lp)
    ∙ ap (λ x. p ++ x) e₃
    ∙ append_assoc m (128 ∷ replicate (zeros n) 0) (long bits)
    ∙ ap (λ j. m ++ ending j bits) en
