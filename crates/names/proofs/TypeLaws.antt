-- Laws of sets of types.
use Rattle.std.proofs.Common.{◌≡◌, ℕ, zero, suc, ◌+◌, ◌*◌, ◌/◌, ◌%◌, ◌<◌, ◌≤◌, false, ◌&&◌, ◌||◌, eqb, ltb, ◌≢◌, [], ◌∷◌, length, get_or, set, replicate, Decides, sym, refl, ap, ◌∙◌, ⊎_elim, arith, lit<}
use lib.Bits.{bit_or, or_lt}
use Rattle.std.proofs.lemmas.Nat.{mod_below, div-mul-add, mod-mul-add, shr_le}
use Rattle.std.proofs.lemmas.List.{length-set, set_past, get_or-set_same, get_or-set_other, get_or_past, get_or-replicate, ext_get_or}
use Rattle.std.proofs.lemmas.Bool.{cases_lt, cases_eq}
use Rattle.std.proofs.lemmas.Bool.Decides.{nat_tests, Decides-at}
use Rattle.names.specs.Types.{Words, width, room, mask_of, has, with, no_types, empty}
use Rattle.names.specs.Orders.{octets_decide}
use Rattle.names.specs.Wire.{same_octets}
use Rattle.names.proofs.Octet.{bit, bit_or_lem, same_from_bits}

-- a type past the last word is not in the set
pub has_past : (ws : Words) (t : ℕ) → length ws ≤ t / 8 → has ws t ≡ false
unfolding has
has_past ws t h = ap (λ w. bit w (t % 8)) (get_or_past ws (t / 8) 0 h)

none_within : (t : ℕ) → t / 8 < width → has no_types t ≡ false
unfolding has
none_within t h = ap (λ w. bit w (t % 8)) (get_or-replicate width (t / 8) 0 0 h)

-- the set of no type has none
pub has_none : (t : ℕ) → has no_types t ≡ false
has_none t = ⊎_elim (none_within t) (has_past no_types t) (cases_lt (t / 8) width)

pub with_keeps_length : (ws : Words) (t : ℕ) → length (with ws t) ≡ length ws
unfolding with
with_keeps_length ws t = length-set ws (t / 8) (bit_or (get_or ws (t / 8) 0) (mask_of t))

-- a type past the last word leaves the set as it is
pub with_past : (ws : Words) (t : ℕ) → length ws ≤ t / 8 → with ws t ≡ ws
unfolding with
with_past ws t h = set_past ws (t / 8) (bit_or (get_or ws (t / 8) 0) (mask_of t)) h

-- the word that changes
with_here : (ws : Words) (t u : ℕ) → t / 8 < length ws → u / 8 ≡ t / 8 → has (with ws t) u ≡ (has ws u || eqb (t % 8) (u % 8))
unfolding has with
with_here ws t u h e =
    let w = get_or ws (t / 8) 0 in
    ap (λ i. bit (get_or (with ws t) i 0) (u % 8)) e
    ∙ ap (λ x. bit x (u % 8)) (get_or-set_same ws (t / 8) (bit_or w (mask_of t)) 0 h)
    ∙ bit_or_lem w (t % 8) (u % 8) (mod_below t 8 (lit< tt)) (mod_below u 8 (lit< tt))
    ∙ ap (λ i. bit (get_or ws i 0) (u % 8) || eqb (t % 8) (u % 8)) (sym e)

-- and the others
with_there : (ws : Words) (t u : ℕ) → u / 8 ≢ t / 8 → has (with ws t) u ≡ has ws u
unfolding has with
with_there ws t u h = ap (λ x. bit x (u % 8)) (get_or-set_other ws (t / 8) (u / 8) (bit_or (get_or ws (t / 8) 0) (mask_of t)) 0 h)

with_within : (ws : Words) (t u : ℕ) → t / 8 < length ws → has (with ws t) u ≡ (has ws u || eqb u t)
with_within ws t u h =
    ⊎_elim
    (λ e. let r = with_here ws t u h e in grind (arith, nat_tests))
    (λ n. let r = with_there ws t u n in grind (arith, nat_tests))
    (cases_eq (u / 8) (t / 8))

-- what a list of words holds once t is put to it
pub has_with_any : (ws : Words) (t u : ℕ) → has (with ws t) u ≡ (has ws u || (eqb u t && ltb t (8 * length ws)))
has_with_any ws t u =
    ⊎_elim
    (λ h. let r = with_within ws t u h in grind (arith, nat_tests))
    (λ h. let r = ap (λ s. has s u) (with_past ws t h) in grind (arith, nat_tests))
    (cases_lt (t / 8) (length ws))

-- the same, of a set
pub has_with : (ws : Words) (t u : ℕ) → length ws ≡ width → has (with ws t) u ≡ (has ws u || (eqb u t && ltb t room))
has_with ws t u e = has_with_any ws t u ∙ ap (λ n. has ws u || (eqb u t && ltb t (8 * n))) e

-- the words stay octets
pub with_keeps_octets : (ws : Words) (t : ℕ)
    → ((k : ℕ) → k < length ws → get_or ws k 0 < 256)
    → (k : ℕ) → k < length ws → get_or (with ws t) k 0 < 256
unfolding with
with_keeps_octets ws t h k p =
    let w = bit_or (get_or ws (t / 8) 0) (mask_of t) in
    ⊎_elim
    (λ e. let q : t / 8 < length ws = omega arith in
    let o = or_lt 8 (get_or ws (t / 8) 0) (mask_of t) (h (t / 8) q) (omega (arith, shr_le 128 (t % 8))) in
    let s = ap (λ i. get_or (set ws (t / 8) w) i 0) e ∙ get_or-set_same ws (t / 8) w 0 q in
    omega arith)
    (λ n. omega (arith, h k p, get_or-set_other ws (t / 8) k w 0 n))
    (cases_eq k (t / 8))

-- bit j of word i
has_at : (ws : Words) (i j : ℕ) → j < 8 → has ws (i * 8 + j) ≡ bit (get_or ws i 0) j
unfolding has
has_at ws i j h =
    ap (λ k. bit (get_or ws k 0) ((i * 8 + j) % 8)) (div-mul-add i 8 j h) ∙ ap (λ k. bit (get_or ws i 0) k) (mod-mul-add i 8 j h)

-- two sets that hold the same types are the same
pub same_from_has : (a b : Words)
    → length a ≡ width → length b ≡ width
    → ((k : ℕ) → k < length a → get_or a k 0 < 256) → ((k : ℕ) → k < length b → get_or b k 0 < 256)
    → ((t : ℕ) → t < room → has a t ≡ has b t)
    → a ≡ b
same_from_has a b la lb ba bb h =
    ext_get_or 0 a b (la ∙ sym lb)
    (λ i p. same_from_bits (get_or a i 0) (get_or b i 0) (ba i (omega arith)) (bb i (omega arith))
    (λ j q. sym (has_at a i j q) ∙ h (i * 8 + j) (omega arith) ∙ has_at b i j q))

-- the test of two lists of octets tells whether they are equal
-- words that are all 0
none_from_empty : (n : ℕ) (ws : Words) → length ws ≡ n → empty ws ≡ same_octets ws (replicate n 0)
none_from_empty zero [] e = refl
none_from_empty zero (w ∷ ws) e = let z : ⊥ = omega arith in absurd z
none_from_empty (suc n) [] e = let z : ⊥ = omega arith in absurd z
none_from_empty (suc n) (w ∷ ws) e = ap (λ b. eqb w 0 && b) (none_from_empty n ws (omega arith))

-- a set is empty where it is the set of no type
pub empty_decides : (ws : Words) → length ws ≡ width → Decides (empty ws) (ws ≡ no_types)
empty_decides ws e = Decides-at (empty ws) (same_octets ws no_types) (none_from_empty width ws e) (octets_decide ws no_types)
