-- All rounds of a block: rounds of one kind after another, over the schedule taken as windows of 16 words.
use Rattle.std.proofs.Common.{◌≡◌, ℕ, zero, suc, ◌+◌, ◌-◌, ◌%◌, ◌<◌, ◌≤◌, true, false, ltb, List, [], ◌∷◌, ◌++◌, length, get_or, take, drop, set, sym, refl, ap, ◌∙◌, inl, inr, append_assoc, add-one, arith}
use Rattle.std.specs.List.{fold}
use Rattle.std.proofs.lemmas.Bool.{lt-ltb, le-ltb, cases_lt}
use Rattle.std.proofs.lemmas.List.{length-append, length-drop, get_or_append_left, get_or-append_right, get_or-drop, get_or-take, take_all, take-append-le, take-append-drop, length-take, length-take-le, drop_all, drop_more, drop-append-le, set_at}
use Rattle.digests.specs.declared.sha1.rounds.State.{State}
use lib.Bits.{bit_xor}
use Rattle.digests.specs.Runs.{choosing, parting, majoring, window}
use Rattle.digests.specs.Sha.{rotl, next_word, schedule, rounds, stepped}

schedule_none : (b : List ℕ) → schedule b 0 ≡ b
unfolding schedule
schedule_none b = refl

schedule_suc : (b : List ℕ) (n : ℕ) → schedule b (suc n) ≡ schedule b n ++ (next_word (schedule b n) n ∷ [])
unfolding schedule
schedule_suc b n = refl

rounds_append : (t : ℕ) (s : State) (xs ys : List ℕ) → rounds t s (xs ++ ys) ≡ rounds (t + length xs) (rounds t s xs) ys
rounds_append t s [] ys = ap (λ n. rounds n s ys) (omega arith)
rounds_append t s (x ∷ xs) ys =
    let e : t + 1 + length xs ≡ t + suc (length xs) = omega arith in
    rounds_append (t + 1) (stepped t s x) xs ys ∙ ap (λ n. rounds n (rounds (t + 1) (stepped t s x) xs) ys) e

-- ---- the kinds of round
same_choose : (t : ℕ) (s : State) (w : ℕ) → t < 20 → stepped t s w ≡ choosing s w
same_choose t s w h = let e : ltb t 20 ≡ true = lt-ltb _ _ h in rw e

same_first : (t : ℕ) (s : State) (w : ℕ) → 20 ≤ t → t < 40 → stepped t s w ≡ parting 0x6ed9eba1 s w
same_first t s w g h = let e : ltb t 20 ≡ false = le-ltb _ _ g in let f : ltb t 40 ≡ true = lt-ltb _ _ h in rw (e, f)

same_majority : (t : ℕ) (s : State) (w : ℕ) → 40 ≤ t → t < 60 → stepped t s w ≡ majoring s w
same_majority t s w g h = let e : ltb t 20 ≡ false = le-ltb _ _ (omega arith) in let f : ltb t 40 ≡ false = le-ltb _ _ g in let k : ltb t 60 ≡ true = lt-ltb _ _ h in rw (e, f, k)

same_second : (t : ℕ) (s : State) (w : ℕ) → 60 ≤ t → stepped t s w ≡ parting 0xca62c1d6 s w
same_second t s w g = let e : ltb t 20 ≡ false = le-ltb _ _ (omega arith) in let f : ltb t 40 ≡ false = le-ltb _ _ (omega arith) in let k : ltb t 60 ≡ false = le-ltb _ _ g in rw (e, f, k)

-- a fold of one kind is the rounds from t on, as long as each is of that kind
rounds_by : (f : State → ℕ → State) (lo hi : ℕ) → ((t : ℕ) (s : State) (w : ℕ) → lo ≤ t → t < hi → stepped t s w ≡ f s w) → (t : ℕ) (s : State) (ws : List ℕ) → lo ≤ t → t + length ws ≤ hi → fold f s ws ≡ rounds t s ws
rounds_by f lo hi same t s [] g h = refl
rounds_by f lo hi same t s (w ∷ ws) g h =
    ap (λ x. fold f x ws) (sym (same t s w g (omega arith))) ∙ rounds_by f lo hi same (t + 1) (stepped t s w) ws (omega arith) (omega arith)

by_choose : (t : ℕ) (s : State) (ws : List ℕ) → t + length ws ≤ 20 → fold choosing s ws ≡ rounds t s ws
by_choose t s ws h = rounds_by choosing 0 20 (λ t s w _ k. same_choose t s w k) t s ws (omega arith) h

by_first : (t : ℕ) (s : State) (ws : List ℕ) → 20 ≤ t → t + length ws ≤ 40 → fold (parting 0x6ed9eba1) s ws ≡ rounds t s ws
by_first = rounds_by (parting 0x6ed9eba1) 20 40 same_first

by_majority : (t : ℕ) (s : State) (ws : List ℕ) → 40 ≤ t → t + length ws ≤ 60 → fold majoring s ws ≡ rounds t s ws
by_majority = rounds_by majoring 40 60 same_majority

by_second : (t : ℕ) (s : State) (ws : List ℕ) → 60 ≤ t → t + length ws ≤ 80 → fold (parting 0xca62c1d6) s ws ≡ rounds t s ws
by_second = rounds_by (parting 0xca62c1d6) 60 80 (λ t s w g _. same_second t s w g)

-- ---- windows of the schedule
length_schedule : (w : List ℕ) (n : ℕ) → length (schedule w n) ≡ length w + n
unfolding schedule
length_schedule w zero = omega arith
length_schedule w (suc n) = let ih = length_schedule w n in simp length-append (omega arith)

front_schedule : (w : List ℕ) (n : ℕ) → take (length w) (schedule w n) ≡ w
unfolding schedule
front_schedule w zero = take_all (length w) w (omega arith)
front_schedule w (suc n) = take-append-le (length w) (schedule w n) _ (let l = length_schedule w n in omega arith) ∙ front_schedule w n

-- what the window holds at turn i: the new words and the rest of the old
abbrev pub Rolled : List ℕ → ℕ → List ℕ
Rolled w i = drop 16 (schedule w i) ++ drop i w

pub rolled_none : (w : List ℕ) → length w ≡ 16 → w ≡ Rolled w 0
unfolding schedule
rolled_none w l = ap (λ t. t ++ w) (sym (drop_all 16 w (omega arith)))

-- word i + k of the schedule stands at (i + k) % 16
rolled_at : (w : List ℕ) (i k : ℕ) → length w ≡ 16 → i < 16 → k < 16 → get_or (Rolled w i) ((i + k) % 16) 0 ≡ get_or (schedule w i) (i + k) 0
rolled_at w i k l h g = elim (cases_lt (i + k) 16) [
  | inl p ↦
      let m : (i + k) % 16 ≡ i + k = omega arith in
      let ls = length_schedule w i in
      let ld : length (drop 16 (schedule w i)) ≡ i = simp length-drop (omega arith) in
      let fs = front_schedule w i in
      ap (λ n. get_or (Rolled w i) n 0) m
      ∙ get_or-append_right (drop 16 (schedule w i)) (drop i w) i (i + k) 0 ld (omega arith)
      ∙ get_or-drop i w (i + k - i) 0
      ∙ ap (λ n. get_or w n 0) (omega arith)
      ∙ sym (ap (λ x. get_or x (i + k) 0) fs)
      ∙ get_or-take (length w) (schedule w i) (i + k) 0 (omega arith)
  | inr p ↦
      let m : (i + k) % 16 ≡ i + k - 16 = omega arith in
      let ls = length_schedule w i in
      let ld : length (drop 16 (schedule w i)) ≡ i = simp length-drop (omega arith) in
      ap (λ n. get_or (Rolled w i) n 0) m
      ∙ get_or_append_left (drop 16 (schedule w i)) (drop i w) 0 (i + k - 16) (omega arith)
      ∙ get_or-drop 16 (schedule w i) (i + k - 16) 0
      ∙ ap (λ n. get_or (schedule w i) n 0) (omega arith)
]

-- one more word
pub rolled_more : (w v : List ℕ) (i x : ℕ) → length w ≡ 16 → i < 16 → v ≡ Rolled w i → x ≡ next_word (schedule w i) i → set v i x ≡ Rolled w (i + 1)
unfolding schedule
rolled_more w v i x l h e f =
    let ls = length_schedule w i in
    let ld : length (drop 16 (schedule w i)) ≡ i = simp length-drop (omega arith) in
    let p : 16 ≤ length (schedule w i) = omega arith in
    ap (λ u. set u i x) (e ∙ ap (λ t. drop 16 (schedule w i) ++ t) (drop_more w i 0 (omega arith)))
    ∙ set_at (drop 16 (schedule w i)) (get_or w i 0) (drop (i + 1) w) x i ld
    ∙ ap (λ y. drop 16 (schedule w i) ++ (y ∷ drop (i + 1) w)) f
    ∙ sym (append_assoc (drop 16 (schedule w i)) (next_word (schedule w i) i ∷ []) (drop (i + 1) w))
    ∙ ap (λ t. t ++ drop (i + 1) w) (sym (drop-append-le 16 (schedule w i) (next_word (schedule w i) i ∷ []) p))
    ∙ rw add-one

-- the schedule by windows
next_shift : (w x : List ℕ) (m : ℕ) → length w ≡ 16 → next_word (w ++ x) (16 + m) ≡ next_word x m
next_shift w x m l =
    let at : (k : ℕ) → get_or (w ++ x) (16 + m + k) 0 ≡ get_or x (m + k) 0 = λ k. get_or-append_right w x 16 (16 + m + k) 0 l (omega arith) ∙ ap (λ n. get_or x n 0) (omega arith) in
    let at0 : get_or (w ++ x) (16 + m) 0 ≡ get_or x m 0 = get_or-append_right w x 16 (16 + m) 0 l (omega arith) ∙ ap (λ n. get_or x n 0) (omega arith) in
    rw (at 13, at 8, at 2, at0)

schedule_shift : (w : List ℕ) (m : ℕ) → length w ≡ 16 → schedule w (16 + m) ≡ w ++ schedule (window w) m
schedule_shift w zero l =
    ap (λ n. schedule w n) (omega arith) ∙ sym (take-append-drop 16 (schedule w 16))
    ∙ ap (λ t. t ++ drop 16 (schedule w 16)) (ap (λ n. take n (schedule w 16)) (sym l) ∙ front_schedule w 16)
    ∙ ap (λ t. w ++ t) (sym (schedule_none (window w)))
schedule_shift w (suc m) l =
    let ih = schedule_shift w m l in
    let e : 16 + suc m ≡ suc (16 + m) = omega arith in
    ap (λ n. schedule w n) e ∙ schedule_suc w (16 + m)
    ∙ ap (λ t. t ++ (next_word t (16 + m) ∷ [])) ih
    ∙ ap (λ y. (w ++ schedule (window w) m) ++ (y ∷ [])) (next_shift w (schedule (window w) m) m l)
    ∙ append_assoc w (schedule (window w) m) _ ∙ ap (λ t. w ++ t) (sym (schedule_suc (window w) m))

length_window : (w : List ℕ) → length w ≡ 16 → length (window w) ≡ 16
length_window w l = let ls = length_schedule w 16 in simp length-drop (omega arith)

-- two runs over one window
split_window : (t m : ℕ) (s x y : State) (w : List ℕ) → length w ≡ 16 → m ≤ 16 → x ≡ rounds t s (take m w) → y ≡ rounds (t + m) x (take (16 - m) (drop m w)) → y ≡ rounds t s w
split_window t m s x y w l h e f =
    let lt : length (take m w) ≡ m = length-take-le m w (omega arith) in
    f
    ∙ ap (rounds (t + m) x) (take_all (16 - m) (drop m w) (simp length-drop (omega arith)))
    ∙ ap (λ r. rounds (t + m) r (drop m w)) e
    ∙ ap (λ n. rounds (t + n) (rounds t s (take m w)) (drop m w)) (sym lt)
    ∙ sym (rounds_append t s (take m w) (drop m w))
    ∙ ap (rounds t s) (take-append-drop m w)

-- one window, and the rounds over the n words behind it
next_window : (t n : ℕ) (s x y : State) (w v : List ℕ) → length w ≡ 16 → v ≡ window w → x ≡ rounds t s w → y ≡ rounds (t + 16) x (schedule v n) → y ≡ rounds t s (schedule w (16 + n))
next_window t n s x y w v l e f g =
    g
    ∙ ap (λ r. rounds (t + 16) r (schedule v n)) f
    ∙ ap (λ k. rounds (t + k) (rounds t s w) (schedule v n)) (sym l)
    ∙ sym (rounds_append t s w (schedule v n))
    ∙ ap (λ u. rounds t s (w ++ schedule u n)) e
    ∙ ap (rounds t s) (sym (schedule_shift w n l))

-- all rounds, window by window
pub all_rounds : (s x0 x1 x2 x3 x4 x5 x6 x7 : State) (w0 w1 w2 w3 w4 : List ℕ) → length w0 ≡ 16
    → w1 ≡ window w0 → w2 ≡ window w1 → w3 ≡ window w2 → w4 ≡ window w3
    → x0 ≡ fold choosing s w0 → x1 ≡ fold choosing x0 (take 4 w1) → x2 ≡ fold (parting 0x6ed9eba1) x1 (take 12 (drop 4 w1))
    → x3 ≡ fold (parting 0x6ed9eba1) x2 (take 8 w2) → x4 ≡ fold majoring x3 (take 8 (drop 8 w2))
    → x5 ≡ fold majoring x4 (take 12 w3) → x6 ≡ fold (parting 0xca62c1d6) x5 (take 4 (drop 12 w3)) → x7 ≡ fold (parting 0xca62c1d6) x6 w4
    → x7 ≡ rounds 0 s (schedule w0 64)
all_rounds s x0 x1 x2 x3 x4 x5 x6 x7 w0 w1 w2 w3 w4 l0 e1 e2 e3 e4 f0 f1 f2 f3 f4 f5 f6 f7 =
    let l1 : length w1 ≡ 16 = ap length e1 ∙ length_window w0 l0 in
    let l2 : length w2 ≡ 16 = ap length e2 ∙ length_window w1 l1 in
    let l3 : length w3 ≡ 16 = ap length e3 ∙ length_window w2 l2 in
    let l4 : length w4 ≡ 16 = ap length e4 ∙ length_window w3 l3 in
    let within : (n : ℕ) (w : List ℕ) → length (take n w) ≤ n = λ n w. omega (arith, length-take n w) in
    let h0 : x0 ≡ rounds 0 s w0 = f0 ∙ by_choose 0 s w0 (omega arith) in
    let h1 : x2 ≡ rounds 16 x0 w1 =
    split_window 16 4 x0 x1 x2 w1 l1 (omega arith)
    (f1 ∙ by_choose 16 x0 (take 4 w1) (omega (arith, within 4 w1)))
    (f2 ∙ by_first 20 x1 (take 12 (drop 4 w1)) (omega arith) (omega (arith, within 12 (drop 4 w1)))) in
    let h2 : x4 ≡ rounds 32 x2 w2 =
    split_window 32 8 x2 x3 x4 w2 l2 (omega arith)
    (f3 ∙ by_first 32 x2 (take 8 w2) (omega arith) (omega (arith, within 8 w2)))
    (f4 ∙ by_majority 40 x3 (take 8 (drop 8 w2)) (omega arith) (omega (arith, within 8 (drop 8 w2)))) in
    let h3 : x6 ≡ rounds 48 x4 w3 =
    split_window 48 12 x4 x5 x6 w3 l3 (omega arith)
    (f5 ∙ by_majority 48 x4 (take 12 w3) (omega arith) (omega (arith, within 12 w3)))
    (f6 ∙ by_second 60 x5 (take 4 (drop 12 w3)) (omega arith) (omega (arith, within 4 (drop 12 w3)))) in
    let h4 : x7 ≡ rounds 64 x6 (schedule w4 0) = f7 ∙ by_second 64 x6 w4 (omega arith) (omega arith) ∙ ap (rounds 64 x6) (sym (schedule_none w4)) in
    next_window 0 48 s x0 x7 w0 w1 l0 e1 h0 (next_window 16 32 x0 x2 x7 w1 w2 l1 e2 h1 (next_window 32 16 x2 x4 x7 w2 w3 l2 e3 h2 (next_window 48 0 x4 x6 x7 w3 w4 l3 e4 h3 h4)))

pub next_rolled : (w v : List ℕ) (i : ℕ) → length w ≡ 16 → i < 16 → v ≡ Rolled w i
    → rotl 1 (bit_xor (bit_xor (bit_xor (get_or v ((i + 13) % 16) 0) (get_or v ((i + 8) % 16) 0)) (get_or v ((i + 2) % 16) 0)) (get_or v i 0)) ≡ next_word (schedule w i) i
next_rolled w v i l h e =
    let z : i ≡ (i + 0) % 16 = omega arith in
    let y : i + 0 ≡ i = omega arith in
    let e13 : get_or v ((i + 13) % 16) 0 ≡ get_or (schedule w i) (i + 13) 0 = ap (λ u. get_or u ((i + 13) % 16) 0) e ∙ rolled_at w i 13 l h (omega arith) in
    let e8 : get_or v ((i + 8) % 16) 0 ≡ get_or (schedule w i) (i + 8) 0 = ap (λ u. get_or u ((i + 8) % 16) 0) e ∙ rolled_at w i 8 l h (omega arith) in
    let e2 : get_or v ((i + 2) % 16) 0 ≡ get_or (schedule w i) (i + 2) 0 = ap (λ u. get_or u ((i + 2) % 16) 0) e ∙ rolled_at w i 2 l h (omega arith) in
    let e0 : get_or v i 0 ≡ get_or (schedule w i) i 0 = ap (λ u. get_or u i 0) e ∙ ap (λ n. get_or (Rolled w i) n 0) z ∙ rolled_at w i 0 l h (omega arith) ∙ ap (λ n. get_or (schedule w i) n 0) y in
    rw (e13, e8, e2, e0)
