-- The eight bits of an octet. Each rule is one test, computed at every octet, and read off at each.
use Rattle.std.proofs.Common.{◌≡◌, ℕ, zero, suc, ◌+◌, ◌/◌, ◌%◌, ◌^◌, ◌<◌, Bool, true, false, cond, not, ◌&&◌, ◌||◌, eqb, sym, refl, ap, ◌∙◌, mod-eq_of_lt, arith, lit<}
use lib.Bits.{bit_and, bit_or, and_mod, or_mod, and_le_r}
use Rattle.std.proofs.lemmas.Nat.{mod_below, shr_le}
use Rattle.std.proofs.lemmas.Bool.{false≢true, eqb-true}

-- the test passes at each number below n
abbrev each : ℕ → (ℕ → Bool) → Bool
each zero f = true
each (suc n) f = f n && each n f

at : (n : ℕ) (f : ℕ → Bool) → each n f ≡ true → (k : ℕ) → k < n → f k ≡ true
at zero f e k h = let z : ⊥ = omega arith in absurd z
at (suc n) f e k h =
    let ih = at n f in
    let eq : k ≡ n → f k ≡ f n = λ p. ap f p in
    grind arith

same : Bool → Bool → Bool
same true b = b
same false b = not b

same_true : (a b : Bool) → same a b ≡ true → a ≡ b
unfolding same
same_true true true e = refl
same_true true false e = absurd (false≢true e)
same_true false true e = absurd (false≢true e)
same_true false false e = refl

-- bit j of an octet, the highest first
abbrev pub bit : ℕ → ℕ → Bool
bit x j = not (eqb (bit_and x (128 / 2 ^ j)) 0)

-- setting one bit of an octet
setting : ℕ → ℕ → ℕ → Bool
setting x i j = same (bit (bit_or x (128 / 2 ^ i)) j) (bit x j || eqb i j)

settings : each 256 (λ x. each 8 (λ i. each 8 (λ j. setting x i j))) ≡ true
unfolding setting same
settings = refl

bit_or_octet : (x i j : ℕ) → x < 256 → i < 8 → j < 8 → bit (bit_or x (128 / 2 ^ i)) j ≡ (bit x j || eqb i j)
unfolding setting
bit_or_octet x i j h p q =
    same_true _ _
    (at 8 (λ j. setting x i j) (at 8 (λ i. each 8 (λ j. setting x i j)) (at 256 (λ x. each 8 (λ i. each 8 (λ j. setting x i j))) settings x h) i p) j q)

-- a mask sees the low eight bits of a number only
mask_low : (j : ℕ) → (128 / 2 ^ j) % 256 ≡ 128 / 2 ^ j
mask_low j = mod-eq_of_lt (omega (arith, shr_le 128 j))

bit_low : (x j : ℕ) → bit x j ≡ bit (x % 256) j
bit_low x j =
    let small : bit_and x (128 / 2 ^ j) < 256 = omega (arith, and_le_r x (128 / 2 ^ j), shr_le 128 j) in
    let m = mask_low j in
    let a = and_mod x (128 / 2 ^ j) 8 in
    let s = mod-eq_of_lt small in
    ap (λ n. not (eqb n 0)) (cc)

pub bit_or_lem : (x i j : ℕ) → i < 8 → j < 8 → bit (bit_or x (128 / 2 ^ i)) j ≡ (bit x j || eqb i j)
bit_or_lem x i j p q =
    let o = or_mod x (128 / 2 ^ i) 8 in
    let m = mask_low i in
    let e : bit_or x (128 / 2 ^ i) % 256 ≡ bit_or (x % 256) (128 / 2 ^ i) = cc in
    bit_low (bit_or x (128 / 2 ^ i)) j ∙ ap (λ n. bit n j) e ∙ bit_or_octet (x % 256) i j (mod_below x 256 (lit< tt)) p q
    ∙ ap (λ b. b || eqb i j) (sym (bit_low x j))

-- an octet is the sum of its bits
sum : (ℕ → Bool) → ℕ
sum f =
    cond (f 0) 128 0 + (cond (f 1) 64 0 + (cond (f 2) 32 0 + (cond (f 3) 16 0 + (cond (f 4) 8 0 + (cond (f 5) 4 0 + (cond (f 6) 2 0 + cond (f 7) 1 0))))))

sums : each 256 (λ x. eqb x (sum (bit x))) ≡ true
unfolding sum
sums = refl

octet_sum : (x : ℕ) → x < 256 → x ≡ sum (bit x)
octet_sum x h = eqb-true x (sum (bit x)) (at 256 (λ x. eqb x (sum (bit x))) sums x h)

same_sum : (f g : ℕ → Bool) → ((j : ℕ) → j < 8 → f j ≡ g j) → sum f ≡ sum g
unfolding sum
same_sum f g h =
    let e0 = h 0 (lit< tt) in
    let e1 = h 1 (lit< tt) in
    let e2 = h 2 (lit< tt) in
    let e3 = h 3 (lit< tt) in
    let e4 = h 4 (lit< tt) in
    let e5 = h 5 (lit< tt) in
    let e6 = h 6 (lit< tt) in
    let e7 = h 7 (lit< tt) in
    cc

-- two octets with the same bits are the same
pub same_from_bits : (x y : ℕ) → x < 256 → y < 256 → ((j : ℕ) → j < 8 → bit x j ≡ bit y j) → x ≡ y
same_from_bits x y p q h = octet_sum x p ∙ same_sum (bit x) (bit y) h ∙ sym (octet_sum y q)
