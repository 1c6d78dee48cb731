-- The steps of a listing.
use Rattle.std.proofs.Common.{◌≡◌, ℕ, ◌<◌, true, cond, [], ◌∷◌, ◌++◌, length, Some, None, Option, sym, refl, ap, ◌∙◌, ap₂, arith}
use Rattle.std.proofs.lemmas.List.{append_assoc}
use Rattle.std.specs.Option.{option_map}
use Rattle.names.specs.Orders.{names_decide}
use Rattle.names.proofs.Reader.{some_same}
use Rattle.names.proofs.Undo.{name_wire, labels_wire, labels_parts}
use Rattle.names.specs.Types.{Words}
use Rattle.names.specs.Wire.{Octets, is_name, is_labels, labels_of, wire}
use Rattle.books.proofs.Rising.{part_name, after_entry, from_entry}
use Rattle.books.specs.Answers.{some}
use Rattle.books.specs.Held.{Entry, Held, rises, entry_after, first_entry, from_name}
use Rattle.listing.specs.Rows.{from_slot, shown}

-- the first slot
pub from_first : (hs : Held) (r : Option (Option Entry)) → r ≡ some (first_entry hs) → from_slot r hs ≡ hs
from_first [] r e = ap (λ u. from_slot u []) e
from_first (h ∷ hs) r e = ap (λ u. from_slot u (h ∷ hs)) e ∙ rw (((names_decide h.0 h.0).1 refl))

-- where a slot stands in the list
pub record Here (x : Option Entry) (rs hs : Held) : Type 0 where
  pub entry : Entry
  pub later : Held
  pub is : x ≡ Some entry
  pub from : from_slot (Some x) hs ≡ entry ∷ later
  pub all : hs ≡ rs ++ (entry ∷ later)

here_by : (x : Option Entry) (rs hs fs : Held) → from_slot (Some x) hs ≡ fs → rs ++ fs ≡ hs → Some x ≡ some (first_entry fs) → Here x rs hs
here_by x rs hs [] f i j = cc
here_by x rs hs (e ∷ es) f i j = record { entry = e; later = es; is = cc; from = f; all = sym i }

pub here : (x : Option Entry) (rs hs : Held) → rs ++ from_slot (Some x) hs ≡ hs → Some x ≡ some (first_entry (from_slot (Some x) hs)) → Here x rs hs
here x rs hs i j = here_by x rs hs (from_slot (Some x) hs) refl i j

-- the entries from the next slot on
from_next : (rs hs : Held) (e : Entry) (es : Held) (r : Option (Option Entry)) → hs ≡ rs ++ (e ∷ es) → rises hs ≡ true → r ≡ some (first_entry es) → from_slot r hs ≡ es
from_next rs hs e [] r a p q = ap (λ u. from_slot u hs) q
from_next rs hs e (f ∷ fs) r a p q =
    let b : hs ≡ (rs ++ (e ∷ [])) ++ (f ∷ fs) = a ∙ sym (append_assoc rs (e ∷ []) (f ∷ fs)) in
    ap (λ u. from_slot u hs) q ∙ ap (from_name f.0) b ∙ from_entry (rs ++ (e ∷ [])) f fs (rw b at p)

-- one turn: what the next slot and the rows are, once the row of this slot is added
pub record Turn (rs : Held) (row : Entry) (r : Option (Option Entry)) (hs : Held) (x : Option Entry) : Type 0 where
  pub again : (rs ++ (row ∷ [])) ++ from_slot r hs ≡ hs
  pub first : r ≡ some (first_entry (from_slot r hs))
  pub fewer : length (from_slot r hs) < length (from_slot (Some x) hs)

pub turn : (x : Option Entry) (rs hs : Held) (s : Octets) (ws : Words) (r : Option (Option Entry)) → rises hs ≡ true → Here x rs hs → Some (s, ws) ≡ option_map shown x → r ≡ cond (is_name s) (some (entry_after (labels_of s) hs)) None → Turn rs (labels_of s, ws) r hs x
turn x rs hs s ws r p h q e =
    let b = h.entry in
    let es = h.later in
    let v : Some (s, ws) ≡ Some (shown b) = q ∙ ap (option_map shown) h.is in
    let j : (s, ws) ≡ shown b = some_same (s, ws) (shown b) v in
    let u : s ≡ wire b.0 = ap (λ y. y.0) j in
    let w : ws ≡ b.1 = ap (λ y. y.1) j in
    let l : is_labels b.0 ≡ true = part_name rs b es (rw h.all at p) in
    let n : is_name s ≡ true = ap is_name u ∙ name_wire b.0 l in
    let k : labels_of s ≡ b.0 = ap labels_of u ∙ labels_wire b.0 (labels_parts b.0 l) in
    let after : entry_after b.0 hs ≡ first_entry es = ap (entry_after b.0) h.all ∙ after_entry rs b es (rw h.all at p) in
    let f : r ≡ some (first_entry es) = e ∙ rw n (ap (λ z. some (entry_after z hs)) k ∙ ap some after) in
    let t = from_next rs hs b es r h.all p f in
    let m : (labels_of s, ws) ≡ b = ap₂ (λ y z. (y, z)) k w in
    record {
      again = ap₂ (λ y z. (rs ++ (y ∷ [])) ++ z) m t ∙ append_assoc rs (b ∷ []) es ∙ sym h.all;
      first = f ∙ ap (λ z. some (first_entry z)) (sym t);
      fewer = let g = ap length t in let i = ap length h.from in omega arith;
    }

-- a turn by slot numbers, f saying what each stands for
pub turn_at : (f : ℕ → Option Entry) (slot next : Option ℕ) (k : ℕ) (rs hs : Held) (s t : Octets) (ws : Words)
    → slot ≡ Some k
    → rises hs ≡ true
    → rs ++ from_slot (option_map f slot) hs ≡ hs
    → option_map f slot ≡ some (first_entry (from_slot (option_map f slot) hs))
    → Some (s, ws) ≡ option_map shown (f k)
    → t ≡ s
    → option_map f next ≡ cond (is_name t) (some (entry_after (labels_of t) hs)) None
    → Turn rs (labels_of s, ws) (option_map f next) hs (f k)
turn_at f slot next k rs hs s t ws e p i j q u n =
    let i2 : rs ++ from_slot (Some (f k)) hs ≡ hs = rw e at i in
    let j2 : Some (f k) ≡ some (first_entry (from_slot (Some (f k)) hs)) = rw e at j in
    turn (f k) rs hs s ws (option_map f next) p (here (f k) rs hs i2 j2) q (rw u at n)
