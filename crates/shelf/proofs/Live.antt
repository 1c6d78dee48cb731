-- The entries after one went in or came out.
use Rattle.std.proofs.Common.{◌≡◌, ℕ, ◌+◌, ◌-◌, ◌<◌, ◌≤◌, true, false, cond, ltb, leb, List, ◌++◌, length, take, drop, refl, ⊎_elim, arith, rules}
use Rattle.std.proofs.lemmas.List.{same_lists, places}
use Rattle.std.proofs.lemmas.Bool.{cases_Bool}
use borrow.Rule.Slice.PartMut.{mid_of, put_mid}
use Rattle.std.specs.List.{insert, remove, RotatedLeft}
use Rattle.shelf.specs.Entries.{live, can_put, put_slots, put_count, take_slots, take_count}

pub live_put : {X : Type 0} (s : List X) (n i : ℕ) (x : X) → i ≤ n → n < length s → live (insert (live s n) i x ++ drop (n + 1) s) (n + 1) ≡ insert (live s n) i x
live_put s n i x h l = same_lists _ _ (search (rules, places)) (λ k d b. grind (arith, places))

pub live_take : {X : Type 0} (s : List X) (n i : ℕ) → i < n → n ≤ length s → live (remove (live s n) i ++ (take 1 (drop i s) ++ drop n s)) (n - 1) ≡ remove (live s n) i
live_take s n i h l = same_lists _ _ (search (rules, places)) (λ k d b. grind (arith, places))

-- the entries from `i` on, turned by one: the first lies behind the others then
pub turned : {X : Type 0} (s r : List X) (n i : ℕ) → i < n → n ≤ length s → length r ≡ length (mid_of i (n - i) s) → RotatedLeft (mid_of i (n - i) s) r (length (mid_of i (n - i) s)) 1 → put_mid i (n - i) s r ≡ remove (live s n) i ++ (take 1 (drop i s) ++ drop n s)
turned s r n i h l m e = same_lists _ _ (search (rules, places)) (λ k d b. grind (arith, places, e.0 (k - i) d, e.1 (k - i) d))

pub slots_taken : {X : Type 0} (s : List X) (n i : ℕ) → i < n → n ≤ length s → take_slots s n i ≡ remove (live s n) i ++ (take 1 (drop i s) ++ drop n s)
slots_taken s n i h k = let b : ltb i n ≡ true = grind arith in let t : leb n (length s) ≡ true = grind arith in rw (b, t) refl

-- the whole shelf once an entry was put at `i`, where `i` is not past the entries
pub record Put {X : Type 0} (s : List X) (n i : ℕ) (x : X) : Type 0 where
  pub can : can_put s n i ≡ ltb n (length s)
  pub entries : live (put_slots s n i x) (put_count s n i) ≡ cond (ltb n (length s)) (insert (live s n) i x) (live s n)
  pub slots : length (put_slots s n i x) ≡ length s

put_room : {X : Type 0} (s : List X) (n i : ℕ) (x : X) → i ≤ n → n ≤ length s → ltb n (length s) ≡ true → Put s n i x
put_room s n i x h l t =
    let b : leb i n ≡ true = grind arith in
    let lt : n < length s = grind arith in
    let k : length (insert (live s n) i x ++ drop (n + 1) s) ≡ length s = search (rules, places) in
    record { can = rw (t, b) refl; entries = rw (t, b) (live_put s n i x h lt); slots = rw (t, b) k }

put_full : {X : Type 0} (s : List X) (n i : ℕ) (x : X) → n ≤ length s → ltb n (length s) ≡ false → Put s n i x
put_full s n i x l t = record { can = rw t refl; entries = rw t refl; slots = rw t refl }

pub put_all : {X : Type 0} (s : List X) (n i : ℕ) (x : X) → i ≤ n → n ≤ length s → Put s n i x
put_all s n i x h l = ⊎_elim (λ t. put_room s n i x h l t) (λ t. put_full s n i x l t) (cases_Bool (ltb n (length s)))

-- and once the entry at `i` came out, where there is one
pub record Taken {X : Type 0} (s : List X) (n i : ℕ) : Type 0 where
  pub entries : live (take_slots s n i) (take_count s n i) ≡ remove (live s n) i
  pub slots : length (take_slots s n i) ≡ length s

pub take_all : {X : Type 0} (s : List X) (n i : ℕ) → i < n → n ≤ length s → Taken s n i
take_all s n i h l =
    let b : ltb i n ≡ true = grind arith in
    let t : leb n (length s) ≡ true = grind arith in
    let k : length (remove (live s n) i ++ (take 1 (drop i s) ++ drop n s)) ≡ length s = search (rules, places) in
    record { entries = rw (b, t) (live_take s n i h l); slots = rw (b, t) k }
