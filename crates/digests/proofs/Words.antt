-- The words of a block.
use Rattle.std.proofs.Common.{◌≡◌, ℕ, zero, suc, ◌+◌, ◌*◌, ◌<◌, ◌≤◌, List, [], length, get_or, take, drop, ⊎_elim, subst, sym, refl, ap, ◌∙◌, arith}
use denote.Param.Members.{Mut, Called}
use Rattle.std.specs.Array.{IsFromFnResultFrom}
use Rattle.std.specs.Simd.{first_chunks}
use Rattle.std.proofs.lemmas.Bool.{cases_lt}
use Rattle.std.proofs.lemmas.List.{get_or-drop, get_or-take, drop-drop}
use Rattle.std.proofs.lemmas.List.FromFn.{fill_by_all, get_or-map-range_with_len, length-map-range_with_len}
use Rattle.digests.specs.Sha.{word_at, words_at}

-- an array that `from_fn` makes: where each call answers h of its index and leaves f as it was, element k is h k
pub made_at : {F B : Type 0} (g : Mut F (ℕ × Unit {0}) B) (h : ℕ → B) (f : F) → ((i : ℕ) (y : B) (q : F) → Called g f (i, tt) y q → (y ≡ h i) × (q ≡ f))
    → (ys : List B) (i n : ℕ) → IsFromFnResultFrom g f ys i n → (k : ℕ) (d : B) → i ≤ k → k < i + n → get_or ys k d ≡ h k
made_at g h f step ys i zero r k d a b = absurd (omega arith)
made_at {F} g h f step ys i (suc n) r k d a b =
    let s = step i r.1 r.0 r.3 in
    let P : F → Type 0 = λ q. IsFromFnResultFrom g q ys (i + 1) n in
    ⊎_elim (λ l. made_at g h f step ys (i + 1) n (subst P s.1 r.4) k d (omega arith) (omega arith))
    (λ l. let e : k ≡ i = omega arith in ap (λ m. get_or ys m d) e ∙ r.2.1 d ∙ s.0 ∙ ap h (sym e)) (cases_lt i k)

-- chunk j of a list
chunk_at : {A : Type 0} (n k j m : ℕ) (xs : List A) → j < k → j * n ≡ m → get_or (first_chunks n k xs) j [] ≡ take n (drop m xs)
chunk_at n zero j m xs h e = absurd (omega arith)
chunk_at n (suc k) zero m xs h e = let z : 0 ≡ m = omega arith in ap (λ i. take n (drop i xs)) z
chunk_at n (suc k) (suc j) m xs h e = chunk_at n k j (j * n) (drop n xs) (omega arith) refl ∙ ap (take n) (drop-drop (j * n) n xs) ∙ ap (λ i. take n (drop i xs)) (omega arith)

word_same : (xs ys : List ℕ) (i k : ℕ) → ((j : ℕ) → j < 4 → get_or xs (i + j) 0 ≡ get_or ys (k + j) 0) → word_at xs i ≡ word_at ys k
word_same xs ys i k f =
    let e0 : get_or xs i 0 ≡ get_or ys k 0 = ap (λ n. get_or xs n 0) (omega arith) ∙ f 0 (omega arith) ∙ ap (λ n. get_or ys n 0) (omega arith) in
    rw (e0, f 1 (omega arith), f 2 (omega arith), f 3 (omega arith))

-- the octets of chunk j of four are those of word j
pub chunk_word : (xs : List ℕ) (css : List (List ℕ)) (k j : ℕ) → j < k → css ≡ first_chunks 4 k xs → word_at (get_or css j []) 0 ≡ word_at xs (0 + j * 4)
chunk_word xs css k j h e =
    let c : get_or css j [] ≡ take 4 (drop (j * 4) xs) = ap (λ l. get_or l j []) e ∙ chunk_at 4 k j (j * 4) xs h refl in
    ap (λ l. word_at l 0) c
    ∙ word_same (take 4 (drop (j * 4) xs)) xs 0 (0 + j * 4)
    (λ i g. ap (λ n. get_or (take 4 (drop (j * 4) xs)) n 0) (omega arith) ∙ get_or-take 4 (drop (j * 4) xs) i 0 g ∙ get_or-drop (j * 4) xs i 0 ∙ ap (λ n. get_or xs n 0) (omega arith))

pub words_all : (xs : List ℕ) (i : ℕ) (w : List ℕ) → length w ≡ 16 → ((j : ℕ) → j < 16 → get_or w j 0 ≡ word_at xs (i + j * 4)) → w ≡ words_at xs i
unfolding words_at
words_all xs i w l f = fill_by_all (λ j. word_at xs (i + j * 4)) w 16 0 l f

-- where two lists have the same octets from i and from k on, they have the same words there
pub words_same : (xs ys : List ℕ) (i k : ℕ) → ((j : ℕ) → j < 64 → get_or xs (i + j) 0 ≡ get_or ys (k + j) 0) → words_at xs i ≡ words_at ys k
unfolding words_at
words_same xs ys i k f = words_all ys k (words_at xs i) (length-map-range_with_len (λ t. word_at xs (i + t * 4)) 0 16)
    (λ j h. get_or-map-range_with_len (λ t. word_at xs (i + t * 4)) 0 16 j j 0 h (omega arith)
    ∙ word_same xs ys (i + j * 4) (k + j * 4) (λ n g. ap (λ m. get_or xs m 0) (omega arith) ∙ f (j * 4 + n) (omega arith) ∙ ap (λ m. get_or ys m 0) (omega arith)))
