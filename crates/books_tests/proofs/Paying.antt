-- Names that cost their length, in slots.
use Rattle.std.proofs.Common.{◌≡◌, ℕ, ◌+◌, ◌<◌, ◌≤◌, Bool, true, false, cond, leb, List, [], ◌∷◌, length, get_or, drop, is_some, is_ok, None, Ok, Err, Result, sym, refl, ap, ◌∙◌, arith}
use Rattle.std.proofs.lemmas.List.{drop_more}
use Rattle.std.proofs.lemmas.Bool.{cases_Bool}
use Rattle.std.proofs.lemmas.Bool.Decides.{nat_tests}
use Rattle.names.specs.Types.{Words}
use Rattle.names.specs.Wire.{Octets, Labels, is_name, labels_of}
use Rattle.names.specs.declared.refusal.Refusal.{Refusal}
use Rattle.names.specs.declared.refusal.Refusal.TheVariants.{NoName, BookFull}
use Rattle.names.specs.declared.refusal.Refusal.TheVariants as refusal
use Rattle.books.specs.Answers.{of_name, put_name, put_held}
use Rattle.books.specs.Held.{Held, entry_of, with_entry, spent}
use Rattle.books.specs.Stored.{entry_in}
use Rattle.books.specs.declared.named.Named.{Named}
use Rattle.table.specs.Ranks.{entries_in}
use Rattle.books.specs.Held.{one_each}
use Rattle.books_tests.specs.Octets.{octets_of, rest}
use Rattle.books_tests.proofs.Lengths.{wire_some, wire_long}

abbrev costs : List Named → ℕ
costs es = spent octets_of (entries_in es)

-- a turn of the loop: the entry at i is paid with the length of its name
pub paid_more : (es : List Named) (i : ℕ) (x : Named) (octets name : Octets) → i < length es → x ≡ get_or es i x → octets ≡ name → is_name name ≡ true → labels_of name ≡ (entry_in x).0 → costs (drop i es) ≡ length octets + costs (drop (i + 1) es)
paid_more es i x octets name l p e h k =
    let d : costs (drop i es) ≡ octets_of (entry_in (get_or es i x)).0 + costs (drop (i + 1) es) = ap costs (drop_more es i x l) in
    let q : octets_of (entry_in (get_or es i x)).0 ≡ length octets = ap (λ y. octets_of (entry_in y).0) (sym p) ∙ ap octets_of (sym k) ∙ wire_long name h ∙ ap length (sym e) in
    omega arith

pub rest_none : (k : ℕ) (hs : Held) → k < spent octets_of hs → rest k hs ≡ None
rest_none k hs l = let c = cases_Bool (leb (spent octets_of hs) k) in grind (arith, nat_tests)

-- each name costs 1 at least, so where the octets suffice, a slot is free
each_pays : (hs : Held) → spent one_each hs ≤ spent octets_of hs
each_pays [] = omega arith
each_pays (e ∷ es) = let r = each_pays es in let w = wire_some e.0 in omega arith

slot_free : (k : ℕ) (hs : Held) (n : Labels) → leb (spent octets_of hs + octets_of n) k ≡ true → leb (spent one_each hs + one_each n) k ≡ true
slot_free k hs n h = let r = each_pays hs in let w = wire_some n in let c = cases_Bool (leb (spent one_each hs + one_each n) k) in grind (arith, nat_tests)

abbrev put_by : Bool → Bool → Bool → Result (Unit {0}) Refusal
put_by name held fits = cond name (cond held (Err refusal.Held) (cond fits (Ok tt) (Err BookFull))) (Err NoName)

put_also : (name held fits free : Bool) → (fits ≡ true → free ≡ true) → Ok tt ≡ put_by name held fits → put_by name held free ≡ Ok tt
put_also false held fits free f e = cc
put_also true true fits free f e = cc
put_also true false false free f e = cc
put_also true false true free f e = rw (f refl) refl

-- what the table puts where the octets suffice is what a book of octets puts
pub record Put (k : ℕ) (hs after : Held) (s : Octets) (ws : Words) (r : Result (Unit {0}) Refusal) : Type 0 where
  pub answer : r ≡ of_name s (put_name k octets_of hs)
  pub held : after ≡ put_held k octets_of hs s ws

pub table_puts : (k : ℕ) (hs after : Held) (s : Octets) (ws : Words) (r : Result (Unit {0}) Refusal) → Ok tt ≡ of_name s (put_name k octets_of hs) → r ≡ of_name s (put_name k one_each hs) → after ≡ put_held k one_each hs s ws → Put k hs after s ws r
table_puts k hs after s ws r e a h =
    let t = put_also (is_name s) (is_some (entry_of (labels_of s) hs)) (leb (spent octets_of hs + octets_of (labels_of s)) k) (leb (spent one_each hs + one_each (labels_of s)) k) (slot_free k hs (labels_of s)) e in
    record { answer = a ∙ t ∙ e; held = h ∙ ap (λ y. cond (is_ok y) (with_entry (labels_of s, ws) hs) hs) (t ∙ e) }
