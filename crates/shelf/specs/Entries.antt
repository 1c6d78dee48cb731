-- A shelf: entries in the first slots of a list, and how many these are. `s` is the slots and `n` the number of entries.
use Rattle.std.specs.Prelude.{ℕ, ◌+◌, ◌-◌, Bool, cond, ◌&&◌, List, ◌++◌, length, take, drop, None, Option, nat_le, nat_lt}
use Rattle.std.specs.List.{slice_get, insert, remove}

-- the entries
abbrev pub live : {X : Type 0} → List X → ℕ → List X
live s n = take n s

-- an entry can go in at `i`: there is a free slot, and `i` is not past the entries
abbrev pub can_put : {X : Type 0} → List X → ℕ → ℕ → Bool
can_put s n i = nat_lt n (length s) && nat_le i n

-- the slots and the number of entries once x is put at `i`, as they were where it cannot go in
abbrev pub put_slots : {X : Type 0} → List X → ℕ → ℕ → X → List X
put_slots s n i x = cond (can_put s n i) (insert (live s n) i x ++ drop (n + 1) s) s

abbrev pub put_count : {X : Type 0} → List X → ℕ → ℕ → ℕ
put_count s n i = cond (can_put s n i) (n + 1) n

-- there is an entry at `i` to come out
abbrev pub can_take : {X : Type 0} → List X → ℕ → ℕ → Bool
can_take s n i = nat_lt i n && nat_le n (length s)

-- the entry that comes out, and the slots and the number of entries then: it lies in the first free slot
abbrev pub taken : {X : Type 0} → List X → ℕ → ℕ → Option X
taken s n i = cond (can_take s n i) (slice_get s i) None

abbrev pub take_slots : {X : Type 0} → List X → ℕ → ℕ → List X
take_slots s n i = cond (can_take s n i) (remove (live s n) i ++ (take 1 (drop i s) ++ drop n s)) s

abbrev pub take_count : {X : Type 0} → List X → ℕ → ℕ → ℕ
take_count s n i = cond (can_take s n i) (n - 1) n
