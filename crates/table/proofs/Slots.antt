-- Slot numbers of a table.
use Rattle.std.proofs.Common.{◌≡◌, ℕ, Bool, true, cond, is_some, Some, None, Ok, Err, Option, Result, sym, refl, ap, ◌∙◌, ⊎_elim}
use Rattle.std.proofs.lemmas.Bool.{cases_Bool}
use Rattle.std.specs.List.{slice_get}
use Rattle.std.specs.Option.{option_map}
use Rattle.std.specs.Result.{result_ok}
use Rattle.names.proofs.Reader.{was_read}
use Rattle.names.specs.Canonical.{same_name}
use Rattle.names.specs.Wire.{Octets, Labels, is_name, labels_of}
use Rattle.names.specs.declared.refusal.Refusal.{Refusal}
use Rattle.books.specs.Answers.{of_name, some}
use Rattle.books.specs.Held.{Entry, Held, rises, entry_of}
use Rattle.table.proofs.Ranking.{rank_entry, same_at}
use Rattle.table.specs.Ranks.{rank, standing}

-- the answer to a name that was read
pub of_read : {X : Type 0} (o u : Octets) (f : Labels → Result X Refusal) → Some u ≡ cond (is_name o) (Some o) None → f (labels_of u) ≡ of_name o f
of_read o u f e =
    let k = (was_read o u e).0 in
    let v = (was_read o u e).1 in
    ap (λ y. f (labels_of y)) v ∙ sym (rw k refl)

-- what stands at the rank of a held name
at_by : (n : Labels) (e : Entry) (o : Option Entry) → Some e ≡ same_at n o → o ≡ Some e
at_by n e None h = cc
at_by n e (Some f) h = ⊎_elim (λ t. let z : Some e ≡ Some f = h ∙ rw t refl in sym z) (λ t. let z : Some e ≡ None = h ∙ rw t refl in cc) (cases_Bool (same_name n f.0))

at_rank : (n : Labels) (hs : Held) (e : Entry) → rises hs ≡ true → entry_of n hs ≡ Some e → slice_get hs (rank n hs) ≡ Some e
at_rank n hs e h k = at_by n e (slice_get hs (rank n hs)) (sym k ∙ rank_entry n hs h)

abbrev ranked : Bool → ℕ → Result ℕ ℕ
ranked b i = cond b (Ok i) (Err i)

found_by : (n : Labels) (hs : Held) (o : Option Entry) → entry_of n hs ≡ o → rises hs ≡ true → option_map (slice_get hs) (result_ok (ranked (is_some o) (rank n hs))) ≡ some o
found_by n hs None e h = refl
found_by n hs (Some x) e h = ap Some (at_rank n hs x h e)

pub found_at : (n : Labels) (hs : Held) (r : Result ℕ ℕ) (o : Option ℕ) → rises hs ≡ true → r ≡ standing n hs → o ≡ result_ok r → option_map (slice_get hs) o ≡ some (entry_of n hs)
found_at n hs r o h e f = ap (option_map (slice_get hs)) (f ∙ ap result_ok e) ∙ found_by n hs (entry_of n hs) refl h
