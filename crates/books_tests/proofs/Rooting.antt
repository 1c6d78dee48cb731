-- A book that holds the root alone.
use Rattle.std.proofs.Common.{◌≡◌, ℕ, ◌+◌, ◌<◌, min, false, leb, [], ◌∷◌, reverse, length, is_some, Some, None, Err, Option, sym, refl, arith}
use Rattle.std.proofs.lemmas.Bool.{false≢true, cases_Bool}
use Rattle.std.proofs.lemmas.Bool.Decides.{nat_tests}
use Rattle.std.specs.Ordering.{is_lt}
use Rattle.std.specs.Cmp.Lexicographic.{slice_cmp}
use Rattle.names.specs.Canonical.{canonical, by_octets}
use Rattle.names.specs.Wire.{Labels}
use Rattle.names.specs.declared.refusal.Refusal.TheVariants.{NotHeld, BookFull}
use Rattle.names.specs.declared.types.TypeSet.{TypeSet}
use Rattle.books.specs.Answers.{put_name, take_name}
use Rattle.books.specs.Held.{less, entry_of, entry_after, spent}
use Rattle.books_tests.specs.Root.{root_held}

-- a name other than the root has no entry
pub none_found : (n : Labels) (o : Option TypeSet) → 0 < length n → entry_of n (root_held o) ≡ None
none_found [] o h = absurd (omega arith)
none_found (l ∷ ls) None h = refl
none_found (l ∷ ls) (Some t) h = refl

-- no name is less than the root
ends_first : (ls : Labels) → is_lt (slice_cmp by_octets ls []) ≡ false
ends_first [] = refl
ends_first (l ∷ ls) = refl

root_least : (n : Labels) → less n [] ≡ false
unfolding canonical
root_least n = ends_first (reverse n)

pub none_after : (n : Labels) (o : Option TypeSet) → entry_after n (root_held o) ≡ None
none_after n None = refl
none_after n (Some t) = rw (root_least n) refl

-- what a put and a take answer
abbrev charged : Labels → ℕ
charged n = min (length n) 1

nothing_spent : (o : Option TypeSet) → spent charged (root_held o) ≡ 0
nothing_spent None = refl
nothing_spent (Some t) = refl

pub put_other : (n : Labels) (o : Option TypeSet) → 0 < length n → put_name 0 charged (root_held o) n ≡ Err BookFull
put_other n o h =
    let s = nothing_spent o in
    let f : leb (spent charged (root_held o) + charged n) 0 ≡ false = (let c = cases_Bool (leb (spent charged (root_held o) + charged n) 0) in grind (arith, nat_tests)) in
    rw (none_found n o h, f) refl

pub take_other : (n : Labels) (o : Option TypeSet) → 0 < length n → take_name (root_held o) n ≡ Err NotHeld
take_other n o h = rw (none_found n o h) refl

pub take_none : (n : Labels) (o : Option TypeSet) → is_some o ≡ false → take_name (root_held o) n ≡ Err NotHeld
take_none n None e = refl
take_none n (Some t) e = absurd (false≢true (sym e))
