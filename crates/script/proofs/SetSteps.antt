-- Sets of types: the turns of the loops, and that a printed set reads back.
use Rattle.std.proofs.Common.{◌≡◌, ℕ, zero, suc, ◌<◌, ◌≤◌, Bool, true, false, cond, ◌&&◌, ◌||◌, eqb, ltb, List, [], ◌∷◌, ◌++◌, length, get_or, Some, sym, refl, ap, ◌∙◌, add-one, zero-add, arith}
use Rattle.std.proofs.lemmas.List.{map-id, get_or-replicate}
use Rattle.std.proofs.lemmas.List.FromFn.{filter_of_map_range_with_len_more}
use Rattle.std.specs.List.{filter, range_with_len}
use Rattle.std.proofs.lemmas.Bool.{cases_Bool, lt-ltb}
use Rattle.std.proofs.lemmas.Bool.Decides.{nat_tests}
use Rattle.names.proofs.TypeLaws.{has_with, has_none, with_keeps_length, with_keeps_octets, same_from_has}
use Rattle.names.specs.Types.{Words, width, room, has, with, no_types}
use Rattle.names.specs.Wire.{Octets}
use Rattle.script.specs.NameText.{are_octets}
use Rattle.script.specs.SetText.{have_room, with_all, set_of, types_below, types_in, set_if_any, read_set}
use Rattle.script.specs.TypeText.{read_types}

-- the types below n that a set has, chosen from all numbers below n
types_chosen : (n : ℕ) (ws : Words) → filter (has ws) (range_with_len 0 n) ≡ types_below n ws
unfolding types_below
types_chosen zero ws = refl
types_chosen (suc t) ws =
    let m = simp map-id at (filter_of_map_range_with_len_more (has ws) (λ x. x) 0 t t (zero-add t)) in
    ap (λ n. filter (has ws) (range_with_len 0 n)) (sym (add-one t)) ∙ m ∙ ap (λ ts. ts ++ cond (has ws t) (t ∷ []) []) (types_chosen t ws)

pub types_filtered : (ws : Words) → filter (has ws) (range_with_len 0 room) ≡ types_in ws
unfolding types_in
types_filtered ws = types_chosen room ws

-- u is one of the types
abbrev among : ℕ → List ℕ → Bool
among u [] = false
among u (t ∷ ts) = eqb u t || among u ts

among_append : (u : ℕ) (ts us : List ℕ) → among u (ts ++ us) ≡ (among u ts || among u us)
among_append u [] us = refl
among_append u (t ∷ ts) us = let ih = among_append u ts us in grind arith

among_below : (n : ℕ) (ws : Words) (u : ℕ) → among u (types_below n ws) ≡ (ltb u n && has ws u)
unfolding types_below
among_below zero ws u = grind (arith, nat_tests)
among_below (suc t) ws u =
    let ih = among_below t ws u in
    let a = among_append u (types_below t ws) (cond (has ws t) (t ∷ []) []) in
    let e : u ≡ t → has ws u ≡ has ws t = λ p. ap (has ws) p in
    grind (arith, nat_tests)

has_all : (ts : List ℕ) (ws : Words) (u : ℕ) → length ws ≡ width → has (with_all ws ts) u ≡ (has ws u || (among u ts && ltb u room))
has_all [] ws u h = grind arith
has_all (t ∷ ts) ws u h =
    let ih = has_all ts (with ws t) u (with_keeps_length ws t ∙ h) in
    let w = has_with ws t u h in
    grind (arith, nat_tests)

length_all : (ts : List ℕ) (ws : Words) → length (with_all ws ts) ≡ length ws
length_all [] ws = refl
length_all (t ∷ ts) ws = length_all ts (with ws t) ∙ with_keeps_length ws t

octets_all : (ts : List ℕ) (ws : Words) → ((k : ℕ) → k < length ws → get_or ws k 0 < 256) → (k : ℕ) → k < length ws → get_or (with_all ws ts) k 0 < 256
octets_all [] ws h k l = h k l
octets_all (t ∷ ts) ws h k l =
    let e = with_keeps_length ws t in
    octets_all ts (with ws t) (λ j m. with_keeps_octets ws t h j (omega arith)) k (omega arith)

room_append : (ts us : List ℕ) → have_room ts ≡ true → have_room us ≡ true → have_room (ts ++ us) ≡ true
room_append [] us h k = k
room_append (t ∷ ts) us h k = let ih = room_append ts us in grind (arith, nat_tests)

room_below : (n : ℕ) (ws : Words) → n ≤ room → have_room (types_below n ws) ≡ true
unfolding types_below
room_below zero ws h = refl
room_below (suc t) ws h =
    let ih = room_below t ws (omega arith) in
    let r = room_append (types_below t ws) (cond (has ws t) (t ∷ []) []) ih in
    let c = cases_Bool (has ws t) in
    grind (arith, nat_tests)

none_octets : (k : ℕ) → k < length no_types → get_or no_types k 0 < 256
none_octets k h = omega (arith, get_or-replicate {A = ℕ} width k 0 0 h)

octets_at : (ws : Words) → are_octets ws ≡ true → (k : ℕ) → k < length ws → get_or ws k 0 < 256
octets_at [] h k l = absurd (omega arith)
octets_at (w ∷ ws) h zero l = grind (arith, nat_tests)
octets_at (w ∷ ws) h (suc k) l = octets_at ws (grind arith) k (omega arith)

within_room : {b : Bool} (h : Bool) → b ≡ true → (false || ((b && h) && b)) ≡ h
within_room true e = rw e
within_room false e = rw e

has_back : (ws : Words) (t : ℕ) → t < room → has (with_all no_types (types_below room ws)) t ≡ has ws t
has_back ws t p =
    has_all (types_below room ws) no_types t refl
    ∙ rw (has_none t, among_below room ws t) (within_room (has ws t) (lt-ltb t room p))

-- the set of a set's types is that set
pub set_back : (ws : Words) → length ws ≡ width → are_octets ws ≡ true → set_of (types_in ws) ≡ Some ws
unfolding types_in
set_back ws h o =
    let l = length_all (types_below room ws) no_types in
    let same : with_all no_types (types_below room ws) ≡ ws =
    same_from_has (with_all no_types (types_below room ws)) ws l h (λ k p. octets_all (types_below room ws) no_types none_octets k (omega arith)) (octets_at ws o) (has_back ws)
    in
    rw (room_below room ws (omega arith)) (ap Some same)

-- a printed set reads back
pub text_back : (ws : Words) (s : Octets) → length ws ≡ width → are_octets ws ≡ true → read_types s ≡ Some (types_in ws) → read_set s ≡ Some ws
text_back ws s h o e = ap set_if_any e ∙ set_back ws h o
