-- The root, read from its wire form, and the least entry.
use Rattle.std.proofs.Common.{◌≡◌, true, cond, [], ◌∷◌, is_some, is_ok, Some, None, Ok, Err, Option, Result, sym, refl, ap, ◌∙◌}
use Rattle.names.proofs.Reader.{some_same}
use Rattle.names.specs.View.{labels, read_labels}
use Rattle.names.specs.Wire.{is_name, labels_of, parse}
use Rattle.names.specs.declared.name.Name.{Name}
use Rattle.names.specs.declared.refusal.Refusal.{Refusal}
use Rattle.books.specs.Answers.{some}
use Rattle.books.specs.Held.{Entry, Held, rises, entry_of, entry_after, first_entry}
use Rattle.journal.proofs.Lists.{first_by_root}

root_parsed : parse (0 ∷ []) ≡ Some []
unfolding is_name labels_of
root_parsed = refl

pub root_read : (r : Result Name Refusal) → read_labels r ≡ parse (0 ∷ []) → is_ok r ≡ true
root_read (Ok n) h = refl
root_read (Err e) h = let p = h ∙ root_parsed in cc

pub root_labels : (r : Result Name Refusal) (n : Name) → read_labels r ≡ parse (0 ∷ []) → r ≡ Ok n → labels n ≡ []
root_labels r n h e = some_same (labels n) [] (sym (ap read_labels e) ∙ h ∙ root_parsed)

first_some : (o f a x : Option Entry) → f ≡ cond (is_some o) o a → Some x ≡ some o → Some x ≡ some f
first_some None f a x h p = cc
first_some (Some e) f a x h p = p ∙ ap some (sym h)

first_none : (o f a : Option Entry) → f ≡ cond (is_some o) o a → None ≡ some o → a ≡ f
first_none None f a h p = sym h
first_none (Some e) f a h p = cc

-- the root's entry is the first, if the root is held; else the entry after the root is
pub least_root : (hs : Held) (x : Option Entry) → rises hs ≡ true → Some x ≡ some (entry_of [] hs) → Some x ≡ some (first_entry hs)
least_root hs x h p = first_some (entry_of [] hs) (first_entry hs) (entry_after [] hs) x (first_by_root hs h) p

pub least_other : (hs : Held) → rises hs ≡ true → None ≡ some (entry_of [] hs) → entry_after [] hs ≡ first_entry hs
least_other hs h p = first_none (entry_of [] hs) (first_entry hs) (entry_after [] hs) (first_by_root hs h) p
