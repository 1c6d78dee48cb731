-- The hash value after octets that are joined.
use Rattle.std.proofs.Common.{◌≡◌, ℕ, zero, suc, ◌+◌, ◌-◌, ◌*◌, ◌/◌, ◌%◌, ◌^◌, List, [], ◌∷◌, ◌++◌, length, get_or, take, drop, sym, refl, ap, ◌∙◌, append_assoc, append-nil, arith}
use Rattle.std.specs.Simd.{first_chunks}
use Rattle.std.proofs.lemmas.List.{length-append, length-drop, length-take-le, get_or-take, get_or-drop, take_all, take-append-drop, take-append-le, drop-append-le, nil_from_length}
use Rattle.std.proofs.lemmas.List.Sums.{fold-append}
use Rattle.digests.specs.declared.sha1.rounds.State.{State}
use Rattle.digests.specs.Runs.{absorbed}
use Rattle.digests.specs.Sha.{words_at, compressed, after, run, ending, padded, initial, zeros}
use Rattle.digests.proofs.Words.{words_same}

-- ---- blocks one by one, and the octets that they are cut from
after_first : (s : State) (xs : List ℕ) (k : ℕ) → after s xs (suc k) ≡ after (compressed s (words_at xs 0)) (drop 64 xs) k
after_first s xs zero = refl
after_first s xs (suc k) =
    let e : words_at xs (suc k * 64) ≡ words_at (drop 64 xs) (k * 64) =
    words_same xs (drop 64 xs) (suc k * 64) (k * 64) (λ j h. sym (get_or-drop 64 xs (k * 64 + j) 0 ∙ ap (λ n. get_or xs n 0) (omega arith))) in
    ap (λ x. compressed x (words_at xs (suc k * 64))) (after_first s xs k) ∙ ap (compressed (after (compressed s (words_at xs 0)) (drop 64 xs) k)) e

chunks_after : (k : ℕ) (s : State) (xs : List ℕ) → absorbed s (first_chunks 64 k xs) ≡ after s xs k
chunks_after zero s xs = refl
chunks_after (suc k) s xs =
    let e : words_at (take 64 xs) 0 ≡ words_at xs 0 = words_same (take 64 xs) xs 0 0 (λ j h. get_or-take 64 xs (0 + j) 0 (omega arith)) in
    chunks_after k (compressed s (words_at (take 64 xs) 0)) (drop 64 xs)
    ∙ ap (λ w. after (compressed s w) (drop 64 xs) k) e
    ∙ sym (after_first s xs k)

pub run_chunks : (s : State) (xs : List ℕ) (blocks : List (List ℕ)) → blocks ≡ first_chunks 64 (length xs / 64) xs → absorbed s blocks ≡ run s xs
unfolding run
run_chunks s xs blocks e = ap (absorbed s) e ∙ chunks_after (length xs / 64) s xs

pub run_block : (s : State) (block : List ℕ) → length block ≡ 64 → absorbed s (block ∷ []) ≡ run s block
run_block s block l =
    let n : 1 ≡ length block / 64 = omega arith in
    run_chunks s block (block ∷ []) (ap (λ b. b ∷ []) (sym (take_all 64 block (omega arith))) ∙ ap (λ k. first_chunks 64 k block) n)

chunks_append : (n k : ℕ) (xs ys : List ℕ) → length xs ≡ n * 64 → first_chunks 64 (n + k) (xs ++ ys) ≡ first_chunks 64 n xs ++ first_chunks 64 k ys
chunks_append zero k xs ys l = ap (λ m. first_chunks 64 m (xs ++ ys)) (omega arith) ∙ ap (λ x. first_chunks 64 k (x ++ ys)) (nil_from_length xs (omega arith))
chunks_append (suc n) k xs ys l =
    let m : suc n + k ≡ suc (n + k) = omega arith in
    let t : take 64 (xs ++ ys) ≡ take 64 xs = take-append-le 64 xs ys (omega arith) in
    let d : drop 64 (xs ++ ys) ≡ drop 64 xs ++ ys = drop-append-le 64 xs ys (omega arith) in
    ap (λ i. first_chunks 64 i (xs ++ ys)) m
    ∙ ap (λ c. c ∷ first_chunks 64 (n + k) (drop 64 (xs ++ ys))) t
    ∙ ap (λ x. take 64 xs ∷ first_chunks 64 (n + k) x) d
    ∙ ap (λ cs. take 64 xs ∷ cs) (chunks_append n k (drop 64 xs) ys (simp length-drop (omega arith)))

run_append : (s : State) (xs ys : List ℕ) → length xs % 64 ≡ 0 → run s (xs ++ ys) ≡ run (run s xs) ys
run_append s xs ys l =
    let n = length xs / 64 in
    let k = length ys / 64 in
    let la = length-append xs ys in
    let e : first_chunks 64 n xs ++ first_chunks 64 k ys ≡ first_chunks 64 (length (xs ++ ys) / 64) (xs ++ ys) =
    sym (chunks_append n k xs ys (omega arith)) ∙ ap (λ m. first_chunks 64 m (xs ++ ys)) (omega arith) in
    sym (run_chunks s (xs ++ ys) (first_chunks 64 n xs ++ first_chunks 64 k ys) e)
    ∙ fold-append _ s (first_chunks 64 n xs) (first_chunks 64 k ys)
    ∙ run_chunks (absorbed s (first_chunks 64 n xs)) ys (first_chunks 64 k ys) refl
    ∙ ap (λ x. run x ys) (run_chunks s xs (first_chunks 64 n xs) refl)

-- the whole blocks of xs, and then what is left of it and ys
run_on : (s r : State) (xs ys rest : List ℕ) (blocks : List (List ℕ)) → blocks ≡ first_chunks 64 (length xs / 64) xs → rest ≡ drop (length xs / 64 * 64) xs → r ≡ absorbed s blocks → run s (xs ++ ys) ≡ run r (rest ++ ys)
run_on s r xs ys rest blocks e f g =
    let n = length xs / 64 in
    let front = take (n * 64) xs in
    let back = drop (n * 64) xs in
    let l : length front ≡ n * 64 = length-take-le (n * 64) xs (omega arith) in
    let c : first_chunks 64 n xs ≡ first_chunks 64 n front =
    ap (λ x. first_chunks 64 n x) (sym (take-append-drop (n * 64) xs))
    ∙ ap (λ m. first_chunks 64 m (front ++ back)) (omega arith)
    ∙ chunks_append n 0 front back l
    ∙ append-nil (first_chunks 64 n front) in
    let h : r ≡ run s front = g ∙ run_chunks s front blocks (e ∙ c ∙ ap (λ m. first_chunks 64 m front) (omega arith)) in
    ap (λ x. run s (x ++ ys)) (sym (take-append-drop (n * 64) xs))
    ∙ ap (run s) (append_assoc front back ys)
    ∙ run_append s front (back ++ ys) (omega arith)
    ∙ ap (λ x. run x (back ++ ys)) (sym h)
    ∙ ap (λ x. run r (x ++ ys)) (sym f)

-- ---- a message of two parts
-- the end of a message of n octets, of which the last m are what is left of its last block
ending_same : (n m bits : ℕ) → n % 64 ≡ m % 64 → bits ≡ (n * 8) % 2 ^ 64 → ending n ((n * 8) % 2 ^ 64) ≡ ending m bits
ending_same n m bits e f =
    let z : zeros n ≡ zeros m = ap (λ r. (119 - r) % 64) e in
    rw (z, f)

-- x is left of a, and x and b end in the same block
pub message_short : (m a b x : List ℕ) (blocks : List (List ℕ)) (bits : ℕ) (s r : State) → m ≡ a ++ b
    → blocks ≡ first_chunks 64 (length a / 64) a → x ≡ drop (length a / 64 * 64) a → s ≡ absorbed initial blocks
    → bits ≡ (length m * 8) % 2 ^ 64 → r ≡ run s ((x ++ b) ++ ending (length (x ++ b)) bits) → r ≡ run initial (padded m)
message_short m a b x blocks bits s r em ea ex es eb er =
    let E = ending (length m) ((length m * 8) % 2 ^ 64) in
    let lm : length m ≡ length a + length b = ap length em ∙ length-append a b in
    let lx : length (x ++ b) ≡ length a % 64 + length b = length-append x b ∙ ap (λ n. n + length b) (ap length ex ∙ length-drop (length a / 64 * 64) a ∙ omega arith) in
    let c : E ≡ ending (length (x ++ b)) bits = ending_same (length m) (length (x ++ b)) bits (omega arith) eb in
    er
    ∙ ap (λ t. run s ((x ++ b) ++ t)) (sym c)
    ∙ ap (run s) (append_assoc x b E)
    ∙ sym (run_on initial s a (b ++ E) x blocks ea ex es)
    ∙ ap (run initial) (sym (append_assoc a b E))
    ∙ ap (λ t. run initial (t ++ E)) (sym em)

-- x is left of a, front fills up the block that x begins, and y is left of what follows it
pub message_long : (m a b x front behind y : List ℕ) (blocks middle : List (List ℕ)) (bits : ℕ) (s t u r : State) → m ≡ a ++ b
    → blocks ≡ first_chunks 64 (length a / 64) a → x ≡ drop (length a / 64 * 64) a → s ≡ absorbed initial blocks
    → b ≡ front ++ behind → length (x ++ front) ≡ 64 → t ≡ run s (x ++ front)
    → middle ≡ first_chunks 64 (length behind / 64) behind → y ≡ drop (length behind / 64 * 64) behind → u ≡ absorbed t middle
    → bits ≡ (length m * 8) % 2 ^ 64 → r ≡ run u ((y ++ []) ++ ending (length (y ++ [])) bits) → r ≡ run initial (padded m)
message_long m a b x front behind y blocks middle bits s t u r em ea ex es eb l64 et ec ey eu ebits er =
    let E = ending (length m) ((length m * 8) % 2 ^ 64) in
    let lm : length m ≡ length a + length b = ap length em ∙ length-append a b in
    let lb : length b ≡ length front + length behind = ap length eb ∙ length-append front behind in
    let lx : length x ≡ length a % 64 = ap length ex ∙ length-drop (length a / 64 * 64) a ∙ omega arith in
    let lj : length x + length front ≡ 64 = sym (length-append x front) ∙ l64 in
    let ly : length (y ++ []) ≡ length behind % 64 = ap length (append-nil y ∙ ey) ∙ length-drop (length behind / 64 * 64) behind ∙ omega arith in
    let c : E ≡ ending (length (y ++ [])) bits = ending_same (length m) (length (y ++ [])) bits (omega arith) ebits in
    er
    ∙ ap (λ z. run u ((y ++ []) ++ z)) (sym c)
    ∙ ap (λ z. run u (z ++ E)) (append-nil y)
    ∙ sym (run_on t u behind E y middle ec ey eu)
    ∙ ap (λ z. run z (behind ++ E)) et
    ∙ sym (run_append s (x ++ front) (behind ++ E) (omega arith))
    ∙ ap (run s) (append_assoc x front (behind ++ E) ∙ ap (λ z. x ++ z) (sym (append_assoc front behind E)) ∙ ap (λ z. x ++ (z ++ E)) (sym eb))
    ∙ sym (run_on initial s a (b ++ E) x blocks ea ex es)
    ∙ ap (run initial) (sym (append_assoc a b E))
    ∙ ap (λ z. run initial (z ++ E)) (sym em)
