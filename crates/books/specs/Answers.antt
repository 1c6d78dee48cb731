-- What a book answers, and what it holds then.
use Rattle.std.specs.Prelude.{ℕ, ◌+◌, cond, is_some, is_ok, Some, None, Ok, Err, Option, Result, nat_le}
use Rattle.std.specs.Option.{option_map}
pub use Rattle.names.specs.Refusals.{of_name}
use Rattle.names.specs.Types.{Words}
use Rattle.names.specs.Wire.{Octets, Labels, labels_of, wire, written}
use Rattle.names.specs.declared.refusal.Refusal.{Refusal}
use Rattle.names.specs.declared.refusal.Refusal.TheVariants.{NotHeld, BookFull}
use Rattle.names.specs.declared.refusal.Refusal.TheVariants as refusal
use Rattle.books.specs.Held.{Entry, Held, entry_of, with_entry, without_name, spent}

-- what a slot number that is answered stands for, `entry_at` saying which entry a slot number stands for
abbrev pub found : (ℕ → Option Entry) → Result (Option ℕ) Refusal → Result (Option (Option Entry)) Refusal
found entry_at (Ok o) = Ok (option_map entry_at o)
found entry_at (Err e) = Err e

-- an entry as such an answer
abbrev pub some : Option Entry → Option (Option Entry)
some o = option_map Some o

-- put: refused if the name is held, or if the costs exceed the capacity
abbrev pub put_name : ℕ → (Labels → ℕ) → Held → Labels → Result (Unit {0}) Refusal
put_name capacity cost held n =
    cond (is_some (entry_of n held)) (Err refusal.Held) (cond (nat_le (spent cost held + cost n) capacity) (Ok tt) (Err BookFull))

-- take: refused if the name is not held
abbrev pub take_name : Held → Labels → Result (Unit {0}) Refusal
take_name held n = cond (is_some (entry_of n held)) (Ok tt) (Err NotHeld)

-- what is held once a name is put or taken, as it was where that is refused
abbrev pub put_held : ℕ → (Labels → ℕ) → Held → Octets → Words → Held
put_held capacity cost held s ws =
    cond (is_ok (of_name s (put_name capacity cost held))) (with_entry (labels_of s, ws) held) held

abbrev pub take_held : Held → Octets → Held
take_held held s = cond (is_ok (of_name s (take_name held))) (without_name (labels_of s) held) held

-- a buffer once the name of an entry is written to its front, as it was where there is no entry
abbrev pub name_written : Option Entry → Octets → Octets
name_written None out = out
name_written (Some e) out = written (wire e.0) out
