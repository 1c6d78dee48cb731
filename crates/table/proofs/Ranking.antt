-- Ranks in a list that rises.
use Rattle.std.proofs.Common.{◌≡◌, ℕ, zero, suc, ◌+◌, ◌<◌, ◌≤◌, true, false, cond, ltb, ◌⊎◌, [], ◌∷◌, length, get_or, Some, None, Option, sym, refl, ap, ◌∙◌, inl, inr, ⊎_elim, arith}
use Rattle.std.proofs.Math.Numerals.{unary_clauses}
use Rattle.std.proofs.lemmas.Bool.{cases_Bool}
use Rattle.std.proofs.lemmas.Bool.Decides.{nat_tests}
use Rattle.std.specs.List.{slice_get, insert, remove}
use Rattle.names.specs.Orders.{names_decide}
use Rattle.names.specs.Canonical.{same_name}
use Rattle.names.specs.Wire.{Labels}
use Rattle.books.proofs.Keeps.{less_other, none_before}
use Rattle.books.proofs.Rising.{less_irreflexive, less_transitive, less_apart, less_not_back, rises_tail, after_entry}
use Rattle.books.specs.Held.{Entry, Held, less, rises_from, rises, entry_of, entry_after, first_entry, with_entry, without_name}
use Rattle.table.specs.Ranks.{rank}

pub rank_most : (n : Labels) (hs : Held) → rank n hs ≤ length hs
rank_most n [] = omega arith
rank_most n (e ∷ es) = let r = rank_most n es in let c = cases_Bool (less e.0 n) in grind (arith, nat_tests)

-- what stands before a list that starts with no lesser name than n has no lesser one behind
rank_none : (n m : Labels) (hs : Held) → rises_from m hs ≡ true → less m n ≡ false → rank n hs ≡ 0
rank_none n m [] h k = refl
rank_none n m (e ∷ es) h k = let t = less_transitive m e.0 n in let c = cases_Bool (less e.0 n) in grind (arith, nat_tests)

-- the entries before the rank are the lesser ones
pub rank_splits : (n : Labels) (hs : Held) (d : Entry) (i : ℕ) → rises hs ≡ true → i < length hs → less (get_or hs i d).0 n ≡ ltb i (rank n hs)
rank_splits n [] d i h l = absurd (omega arith)
rank_splits n (e ∷ es) d zero h l = let c = cases_Bool (less e.0 n) in grind (arith, nat_tests)
rank_splits n (e ∷ es) d (suc i) h l =
    let t = rises_tail e.0 es h in
    let c = cases_Bool (less e.0 n) in
    let r = rank_splits n es d i t (omega arith) in
    let z = rank_none n e.0 es h in
    grind (arith, nat_tests)

-- the entry of a name, if it has one, stands at the rank
abbrev pub same_at : Labels → Option Entry → Option Entry
same_at n None = None
same_at n (Some e) = cond (same_name n e.0) (Some e) None

pub rank_entry : (n : Labels) (hs : Held) → rises hs ≡ true → entry_of n hs ≡ same_at n (slice_get hs (rank n hs))
rank_entry n [] h = refl
rank_entry n (e ∷ es) h =
    let t = rises_tail e.0 es h in
    let r = rank_entry n es t in
    let c = cases_Bool (less e.0 n) in
    let s = cases_Bool (same_name n e.0) in
    let a = less_apart e.0 n in
    let b = none_before n e.0 es h in
    grind (arith, nat_tests)

-- the entry after a name that is not held stands at the rank, and after one that is held behind it
pub rank_after : (n : Labels) (hs : Held) → rises hs ≡ true → entry_of n hs ≡ None → entry_after n hs ≡ slice_get hs (rank n hs)
rank_after n [] h k = refl
rank_after n (e ∷ es) h k =
    let t = rises_tail e.0 es h in
    let r = rank_after n es t in
    let c = cases_Bool (less e.0 n) in
    let s = cases_Bool (same_name n e.0) in
    let a = less_not_back e.0 n in
    let o = less_other e.0 n in
    let o2 = less_other n e.0 in
    let d = cases_Bool (less n e.0) in
    grind (arith, nat_tests)

-- the first entry stands at 0
pub nth_first : (hs : Held) → slice_get hs 0 ≡ first_entry hs
nth_first [] = refl
nth_first (e ∷ es) = refl

-- a held name is the first entry's, or it is greater and stands behind
either : (n : Labels) (e f : Entry) (es : Held) → rises_from e.0 es ≡ true → entry_of n (e ∷ es) ≡ Some f → (n ≡ e.0) ⊎ ((less e.0 n ≡ true) × (entry_of n es ≡ Some f))
either n e f es h k =
    ⊎_elim
    (λ s. inl (((names_decide n e.0).0) s))
    (λ s.
    let t : entry_of n es ≡ Some f = sym (rw s) ∙ k in
    inr (⊎_elim (λ l. l) (λ l. let b = none_before n e.0 es h l in cc) (cases_Bool (less e.0 n)), t))
    (cases_Bool (same_name n e.0))

-- the entry after a name that is held stands behind the rank
pub rank_next : (n : Labels) (hs : Held) (f : Entry) → rises hs ≡ true → entry_of n hs ≡ Some f → entry_after n hs ≡ slice_get hs (rank n hs + 1)
rank_next n [] f h k = cc
rank_next n (e ∷ es) f h k =
    ⊎_elim
    (λ s.
    let i = less_irreflexive e.0 in
    let w : slice_get (e ∷ es) (rank e.0 (e ∷ es) + 1) ≡ slice_get es 0 = rw i refl in
    ap (λ y. entry_after y (e ∷ es)) s ∙ after_entry [] e es h ∙ sym (nth_first es) ∙ sym w ∙ sym (ap (λ y. slice_get (e ∷ es) (rank y (e ∷ es) + 1)) s))
    (λ p.
    let r = rank_next n es f (rises_tail e.0 es h) p.1 in
    let b = less_not_back e.0 n p.0 in
    rw (p.0, b) (simp unary_clauses (simp unary_clauses at r)))
    (either n e f es h k)

-- an entry goes in at the rank of its name, and a name comes out there
pub rank_with : (e : Entry) (hs : Held) → rises hs ≡ true → entry_of e.0 hs ≡ None → with_entry e hs ≡ insert hs (rank e.0 hs) e
rank_with e [] h k = refl
rank_with e (f ∷ fs) h k =
    let t = rises_tail f.0 fs h in
    let r = rank_with e fs t in
    let c = cases_Bool (less f.0 e.0) in
    let s = cases_Bool (same_name e.0 f.0) in
    let a = less_not_back f.0 e.0 in
    let o = less_other e.0 f.0 in
    let d = cases_Bool (less e.0 f.0) in
    grind (arith, nat_tests)

pub rank_without : (n : Labels) (hs : Held) (f : Entry) → rises hs ≡ true → entry_of n hs ≡ Some f → without_name n hs ≡ remove hs (rank n hs)
rank_without n [] f h k = cc
rank_without n (e ∷ es) f h k =
    ⊎_elim
    (λ s.
    let i = less_irreflexive e.0 in
    let j = (names_decide e.0 e.0).1 refl in
    rw s (rw (i, j) refl))
    (λ p.
    let r = rank_without n es f (rises_tail e.0 es h) p.1 in
    let b = less_apart e.0 n p.0 in
    rw (p.0, b) (ap (λ l. e ∷ l) r))
    (either n e f es h k)
