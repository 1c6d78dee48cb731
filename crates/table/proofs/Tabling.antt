-- A table once an entry was put in or taken out.
use Rattle.std.proofs.Common.{◌≡◌, ℕ, zero, suc, ◌+◌, ◌<◌, ◌≤◌, Bool, true, false, cond, ltb, leb, List, [], ◌∷◌, map, length, is_some, is_ok, Some, None, Ok, Err, Option, sym, refl, ap, ◌∙◌, ap₂, ⊎_elim, arith}
use Rattle.std.proofs.lemmas.List.{length-map, length-take}
use Rattle.std.proofs.lemmas.Option.{slice_get_past}
use Rattle.std.proofs.lemmas.Bool.{cases_Bool}
use Rattle.std.specs.List.{insert, remove}
use Rattle.names.proofs.Undo.{are_labels_lem}
use Rattle.names.proofs.Reader.{some_same, was_read}
use Rattle.names.specs.Types.{Words}
use Rattle.names.specs.Wire.{Octets, Labels, is_name, is_labels, labels_of}
use Rattle.shelf.proofs.Live.{put_all, take_all}
use Rattle.shelf.specs.Entries.{live, can_put, put_slots, put_count, take_slots, take_count}
use Rattle.books.proofs.Keeps.{rises_with, rises_without}
use Rattle.names.specs.declared.refusal.Refusal.TheVariants.{BookFull}
use Rattle.books.specs.Answers.{of_name, put_name, take_name, put_held, take_held}
use Rattle.books.specs.Held.{Entry, Held, rises, entry_of, with_entry, without_name, spent}
use Rattle.books.specs.Stored.{entry_in, contents, stored}
use Rattle.books.specs.declared.named.Named.{Named}
use Rattle.table.proofs.Ranking.{rank_most, rank_entry, rank_with, rank_without, same_at}
use Rattle.table.specs.Ranks.{entries_in, rank, standing}
use Rattle.books.specs.Held.{one_each}

-- what a position says
pub record Missing (n : Labels) (hs : Held) (i : ℕ) : Type 0 where
  pub at : i ≡ rank n hs
  pub none : entry_of n hs ≡ None

pub record Present (n : Labels) (hs : Held) (i : ℕ) : Type 0 where
  pub at : i ≡ rank n hs
  pub entry : Entry
  pub some : entry_of n hs ≡ Some entry

missing_by : (n : Labels) (hs : Held) (i : ℕ) (o : Option Entry) → entry_of n hs ≡ o → Err i ≡ cond (is_some o) (Ok (rank n hs)) (Err (rank n hs)) → Missing n hs i
missing_by n hs i None e h = record { at = cc; none = e }
missing_by n hs i (Some x) e h = cc

pub missing : (n : Labels) (hs : Held) (i : ℕ) → Err i ≡ standing n hs → Missing n hs i
missing n hs i h = missing_by n hs i (entry_of n hs) refl h

present_by : (n : Labels) (hs : Held) (i : ℕ) (o : Option Entry) → entry_of n hs ≡ o → Ok i ≡ cond (is_some o) (Ok (rank n hs)) (Err (rank n hs)) → Present n hs i
present_by n hs i None e h = cc
present_by n hs i (Some x) e h = record { at = cc; entry = x; some = e }

pub present : (n : Labels) (hs : Held) (i : ℕ) → Ok i ≡ standing n hs → Present n hs i
present n hs i h = present_by n hs i (entry_of n hs) refl h

pub present_within : (n : Labels) (hs : Held) (i : ℕ) → rises hs ≡ true → Present n hs i → i < length hs
present_within n hs i h p =
    let m = rank_most n hs in
    let e = rank_entry n hs h in
    let q = slice_get_past hs (rank n hs) in
    ⊎_elim (λ l. let j = p.at in grind arith) (λ l. let z = ap (same_at n) (q (grind arith)) in let w = p.some in cc) (cases_Bool (ltb (rank n hs) (length hs)))

-- what a new slot has
pub record Stored (x : Named) (s : Octets) (ws : Words) : Type 0 where
  pub name : is_name s ≡ true
  pub all : contents x ≡ stored s ws
  pub entry : entry_in x ≡ (labels_of s, ws)

stored_by : (x : Named) (s : Octets) (ws : Words) (b : Bool) → is_name s ≡ b → Some (contents x) ≡ cond b (Some (stored s ws)) None → Some (entry_in x) ≡ cond b (Some (labels_of s, ws)) None → Stored x s ws
stored_by x s ws true n e f = record { name = n; all = some_same (contents x) (stored s ws) e; entry = some_same (entry_in x) (labels_of s, ws) f }
stored_by x s ws false n e f = cc

pub as_stored : (x : Named) (s : Octets) (ws : Words) → Some (contents x) ≡ cond (is_name s) (Some (stored s ws)) None → Some (entry_in x) ≡ cond (is_name s) (Some (labels_of s, ws)) None → Stored x s ws
as_stored x s ws e f = stored_by x s ws (is_name s) refl e f

-- every name costs one
pub spent_ones : (hs : Held) → spent one_each hs ≡ length hs
spent_ones [] = refl
spent_ones (e ∷ es) = let r = spent_ones es in omega arith

map_inserted : {X Y : Type 0} (f : X → Y) (xs : List X) (i : ℕ) (x : X) → map f (insert xs i x) ≡ insert (map f xs) i (f x)
map_inserted f [] zero x = refl
map_inserted f [] (suc i) x = refl
map_inserted f (y ∷ ys) zero x = refl
map_inserted f (y ∷ ys) (suc i) x = ap (λ l. f y ∷ l) (map_inserted f ys i x)

map_removed : {X Y : Type 0} (f : X → Y) (xs : List X) (i : ℕ) → map f (remove xs i) ≡ remove (map f xs) i
map_removed f [] zero = refl
map_removed f [] (suc i) = refl
map_removed f (y ∷ ys) zero = refl
map_removed f (y ∷ ys) (suc i) = ap (λ l. f y ∷ l) (map_removed f ys i)

-- the slots and their number once an entry was put in at its rank, or refused for want of a slot
pub record Grown (s : List Named) (n : ℕ) (x : Named) (t : List Named) (m : ℕ) (r : Bool) : Type 0 where
  pub sorted : rises (entries_in (live t m)) ≡ true
  pub slots : length t ≡ length s
  pub room : r ≡ leb (spent one_each (entries_in (live s n)) + 1) (length s)
  pub held : entries_in (live t m) ≡ cond r (with_entry (entry_in x) (entries_in (live s n))) (entries_in (live s n))
  pub kept : map contents (live t m) ≡ cond r (insert (map contents (live s n)) (rank (entry_in x).0 (entries_in (live s n))) (contents x)) (map contents (live s n))

count_is : (s : List Named) (n : ℕ) → n ≤ length s → length (entries_in (live s n)) ≡ n
count_is s n l = let u = length-take n s in let v = length-map (live s n) entry_in in omega arith

room_is : (s : List Named) (n : ℕ) → n ≤ length s → leb (spent one_each (entries_in (live s n)) + 1) (length s) ≡ ltb n (length s)
room_is s n l = let u = count_is s n l in let w = spent_ones (entries_in (live s n)) in let a = cases_Bool (ltb n (length s)) in let b = cases_Bool (leb (spent one_each (entries_in (live s n)) + 1) (length s)) in grind arith

grown_by : (s : List Named) (n i : ℕ) (x : Named) (t : List Named) (m : ℕ) (r : Bool) → n ≤ length s → rises (entries_in (live s n)) ≡ true → Missing (entry_in x).0 (entries_in (live s n)) i → is_labels (entry_in x).0 ≡ true → r ≡ ltb n (length s) → live t m ≡ cond r (insert (live s n) i x) (live s n) → length t ≡ length s → Grown s n x t m r
grown_by s n i x t m true l h p k e a b =
    let w = rank_with (entry_in x) (entries_in (live s n)) h p.none in
    let v : entries_in (live t m) ≡ with_entry (entry_in x) (entries_in (live s n)) = ap entries_in a ∙ map_inserted entry_in (live s n) i x ∙ ap (λ j. insert (entries_in (live s n)) j (entry_in x)) p.at ∙ sym w in
    record {
      sorted = ap rises v ∙ rises_with (entry_in x) (entries_in (live s n)) h k p.none;
      slots = b;
      room = e ∙ sym (room_is s n l);
      held = v;
      kept = ap (map contents) a ∙ map_inserted contents (live s n) i x ∙ ap (λ j. insert (map contents (live s n)) j (contents x)) p.at;
    }
grown_by s n i x t m false l h p k e a b =
    record {
      sorted = ap (λ y. rises (entries_in y)) a ∙ h;
      slots = b;
      room = e ∙ sym (room_is s n l);
      held = ap entries_in a;
      kept = ap (map contents) a;
    }

pub grown : (s : List Named) (n i : ℕ) (x : Named) (t : List Named) (m : ℕ) (r : Bool) → n ≤ length s → rises (entries_in (live s n)) ≡ true → Missing (entry_in x).0 (entries_in (live s n)) i → r ≡ can_put s n i → t ≡ put_slots s n i x → m ≡ put_count s n i → Grown s n x t m r
grown s n i x t m r l h p e a b =
    let j = rank_most (entry_in x).0 (entries_in (live s n)) in
    let u = count_is s n l in
    let q = p.at in
    let w = put_all s n i x (omega arith) l in
    let f : r ≡ ltb n (length s) = e ∙ w.can in
    grown_by s n i x t m r l h p (are_labels_lem _ x.name) f
    (ap₂ live a b ∙ w.entries ∙ sym (ap (λ z. cond z (insert (live s n) i x) (live s n)) f))
    (ap length a ∙ w.slots)

-- the slots and their number once an entry was taken out
pub record Shrunk (s : List Named) (n : ℕ) (name : Labels) (t : List Named) (m : ℕ) : Type 0 where
  pub sorted : rises (entries_in (live t m)) ≡ true
  pub slots : length t ≡ length s
  pub held : entries_in (live t m) ≡ without_name name (entries_in (live s n))
  pub kept : map contents (live t m) ≡ remove (map contents (live s n)) (rank name (entries_in (live s n)))

pub shrunk : (s : List Named) (n i : ℕ) (name : Labels) (t : List Named) (m : ℕ) → n ≤ length s → rises (entries_in (live s n)) ≡ true → Present name (entries_in (live s n)) i → t ≡ take_slots s n i → m ≡ take_count s n i → Shrunk s n name t m
shrunk s n i name t m l h p a b =
    let j = present_within name (entries_in (live s n)) i h p in
    let u = count_is s n l in
    let w = take_all s n i (omega arith) l in
    let e : live t m ≡ remove (live s n) i = ap₂ live a b ∙ w.entries in
    let v : entries_in (live t m) ≡ without_name name (entries_in (live s n)) = ap entries_in e ∙ map_removed entry_in (live s n) i ∙ ap (remove (entries_in (live s n))) p.at ∙ sym (rank_without name (entries_in (live s n)) p.entry h p.some) in
    record {
      sorted = ap rises v ∙ rises_without name (entries_in (live s n)) h;
      slots = ap length a ∙ w.slots;
      held = v;
      kept = ap (map contents) e ∙ map_removed contents (live s n) i ∙ ap (remove (map contents (live s n))) p.at;
    }

-- what a put answers and leaves, by whether there was a slot
pub record PutDone (s : List Named) (n : ℕ) (t : List Named) (m : ℕ) (r : Bool) (o : Octets) (ws : Words) : Type 0 where
  pub answer : cond r (Ok tt) (Err BookFull) ≡ of_name o (put_name (length s) one_each (entries_in (live s n)))
  pub held : entries_in (live t m) ≡ put_held (length s) one_each (entries_in (live s n)) o ws
  pub kept : map contents (live t m) ≡ cond (is_ok (of_name o (put_name (length s) one_each (entries_in (live s n))))) (insert (map contents (live s n)) (rank (labels_of o) (entries_in (live s n))) (stored o ws)) (map contents (live s n))

put_answer : (hs : Held) (k : ℕ) (o : Octets) (r : Bool) → is_name o ≡ true → entry_of (labels_of o) hs ≡ None → r ≡ leb (spent one_each hs + 1) k → of_name o (put_name k one_each hs) ≡ cond r (Ok tt) (Err BookFull)
put_answer hs k o r n e f = rw (n, e, sym f) refl

pub put_done : (s : List Named) (n : ℕ) (x : Named) (t : List Named) (m : ℕ) (r : Bool) (o : Octets) (ws : Words) → Grown s n x t m r → Stored x o ws → entry_of (labels_of o) (entries_in (live s n)) ≡ None → PutDone s n t m r o ws
put_done s n x t m true o ws g k e =
    let a = put_answer (entries_in (live s n)) (length s) o true k.name e g.room in
    let l : (entry_in x).0 ≡ labels_of o = ap (λ y. y.0) k.entry in
    record {
      answer = sym a;
      held = g.held ∙ ap (λ y. with_entry y (entries_in (live s n))) k.entry ∙ sym (ap (λ y. cond (is_ok y) (with_entry (labels_of o, ws) (entries_in (live s n))) (entries_in (live s n))) a);
      kept = g.kept ∙ ap₂ (λ y z. insert (map contents (live s n)) (rank y (entries_in (live s n))) z) l k.all ∙ sym (ap (λ y. cond (is_ok y) (insert (map contents (live s n)) (rank (labels_of o) (entries_in (live s n))) (stored o ws)) (map contents (live s n))) a);
    }
put_done s n x t m false o ws g k e =
    let a = put_answer (entries_in (live s n)) (length s) o false k.name e g.room in
    record {
      answer = sym a;
      held = g.held ∙ sym (ap (λ y. cond (is_ok y) (with_entry (labels_of o, ws) (entries_in (live s n))) (entries_in (live s n))) a);
      kept = g.kept ∙ sym (ap (λ y. cond (is_ok y) (insert (map contents (live s n)) (rank (labels_of o) (entries_in (live s n))) (stored o ws)) (map contents (live s n))) a);
    }

-- what a take answers and leaves, where the name is held
pub record TakeDone (s : List Named) (n : ℕ) (t : List Named) (m : ℕ) (o : Octets) : Type 0 where
  pub answer : Ok tt ≡ of_name o (take_name (entries_in (live s n)))
  pub held : entries_in (live t m) ≡ take_held (entries_in (live s n)) o
  pub kept : map contents (live t m) ≡ cond (is_ok (of_name o (take_name (entries_in (live s n))))) (remove (map contents (live s n)) (rank (labels_of o) (entries_in (live s n)))) (map contents (live s n))

take_answer : (hs : Held) (o : Octets) (e : Entry) → is_name o ≡ true → entry_of (labels_of o) hs ≡ Some e → of_name o (take_name hs) ≡ Ok tt
take_answer hs o e n f = rw (n, f) refl

pub take_done : (s : List Named) (n : ℕ) (t : List Named) (m : ℕ) (o : Octets) (e : Entry) → Shrunk s n (labels_of o) t m → is_name o ≡ true → entry_of (labels_of o) (entries_in (live s n)) ≡ Some e → TakeDone s n t m o
take_done s n t m o e g k f =
    let a = take_answer (entries_in (live s n)) o e k f in
    record {
      answer = sym a;
      held = g.held ∙ sym (ap (λ y. cond (is_ok y) (without_name (labels_of o) (entries_in (live s n))) (entries_in (live s n))) a);
      kept = g.kept ∙ sym (ap (λ y. cond (is_ok y) (remove (map contents (live s n)) (rank (labels_of o) (entries_in (live s n)))) (map contents (live s n))) a);
    }

-- both, from what the calls say: of the name where it would stand, of the new slot what it has, of the shelf what it did
pub record PutAll (s : List Named) (n : ℕ) (x : Named) (t : List Named) (m : ℕ) (r : Bool) (o : Octets) (ws : Words) : Type 0 where
  pub grown : Grown s n x t m r
  pub done : PutDone s n t m r o ws

pub put_all_of : (s : List Named) (n i : ℕ) (x : Named) (t : List Named) (m : ℕ) (r : Bool) (o : Octets) (ws : Words) (name : Labels)
    → n ≤ length s
    → rises (entries_in (live s n)) ≡ true
    → Some (contents x) ≡ cond (is_name o) (Some (stored o ws)) None
    → Some (entry_in x) ≡ cond (is_name o) (Some (labels_of o, ws)) None
    → name ≡ (entry_in x).0
    → Err i ≡ standing name (entries_in (live s n))
    → r ≡ can_put s n i
    → t ≡ put_slots s n i x
    → m ≡ put_count s n i
    → PutAll s n x t m r o ws
put_all_of s n i x t m r o ws name l h e f k p a b c =
    let q = missing (entry_in x).0 (entries_in (live s n)) i (p ∙ ap (λ y. standing y (entries_in (live s n))) k) in
    let g = grown s n i x t m r l h q a b c in
    let d = as_stored x o ws e f in
    record { grown = g; done = put_done s n x t m r o ws g d (ap (λ y. entry_of y.0 (entries_in (live s n))) (sym d.entry) ∙ q.none) }

pub record TakeAll (s : List Named) (n : ℕ) (t : List Named) (m : ℕ) (o : Octets) : Type 0 where
  pub shrunk : Shrunk s n (labels_of o) t m
  pub done : TakeDone s n t m o

pub take_all_of : (s : List Named) (n i : ℕ) (t : List Named) (m : ℕ) (o u : Octets)
    → n ≤ length s
    → rises (entries_in (live s n)) ≡ true
    → Some u ≡ cond (is_name o) (Some o) None
    → Ok i ≡ standing (labels_of u) (entries_in (live s n))
    → t ≡ take_slots s n i
    → m ≡ take_count s n i
    → TakeAll s n t m o
take_all_of s n i t m o u l h e p a b =
    let k = (was_read o u e).0 in
    let v = (was_read o u e).1 in
    let q = present (labels_of o) (entries_in (live s n)) i (p ∙ ap (λ y. standing (labels_of y) (entries_in (live s n))) v) in
    let g = shrunk s n i (labels_of o) t m l h q a b in
    record { shrunk = g; done = take_done s n t m o q.entry g k q.some }
