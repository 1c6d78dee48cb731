-- What the zone's editor answers, and what is held then.
use Rattle.std.specs.Prelude.{ℕ, ◌+◌, cond, not, length, is_ok, Some, None, Ok, Err, Option, Result, nat_le, nat_lt}
use Rattle.names.specs.Canonical.{same_name, at_or_below}
use Rattle.names.specs.Refusals.{of_name}
use Rattle.names.specs.Types.{Words, rule_broken}
use Rattle.names.specs.Wire.{Octets, Labels, labels_of, none}
use Rattle.names.specs.declared.refusal.Refusal.{Refusal}
use Rattle.names.specs.declared.refusal.Refusal.TheVariants.{OutsideZone, TypesNotAllowed, NotHeld, IsApex, CrossesCut, BookFull, SharedPlace, TooFewSlots, SettingNotAllowed}
use Rattle.names.specs.declared.refusal.Refusal.TheVariants as refusal
use Rattle.books.specs.Held.{Held, with_entry, without_name, spent}
use Rattle.model.specs.Chains.{Meaning, recorded, clash}
use Rattle.model.specs.Judges.{flag_allowed}
use Rattle.model.specs.Zones.{is_held, crosses_cut}

-- open, on a book with a capacity and a cost for each name that holds hs
abbrev pub open_answer : Meaning → ℕ → ℕ → (Labels → ℕ) → Held → Octets → Words → Result (Unit {0}) Refusal
open_answer o flag capacity cost hs s ws =
    of_name s (λ n.
    cond (not (flag_allowed o flag)) (Err SettingNotAllowed)
    (cond (rule_broken n n ws) (Err TypesNotAllowed)
    (cond (not (none hs)) (Err refusal.Held)
    (cond (nat_le (cost n) capacity) (Ok tt) (Err BookFull)))))

-- add and strike, in a zone that holds hs
abbrev pub add_answer : Labels → ℕ → (Labels → ℕ) → Held → Octets → Words → Result (Unit {0}) Refusal
add_answer apex capacity cost hs s ws =
    of_name s (λ n.
    cond (not (at_or_below n apex)) (Err OutsideZone)
    (cond (is_held n hs) (Err refusal.Held)
    (cond (rule_broken apex n ws) (Err TypesNotAllowed)
    (cond (crosses_cut apex n ws hs) (Err CrossesCut)
    (cond (nat_le (spent cost hs + cost n) capacity) (Ok tt) (Err BookFull))))))

abbrev pub add_held : Labels → ℕ → (Labels → ℕ) → Held → Octets → Words → Held
add_held apex capacity cost hs s ws = cond (is_ok (add_answer apex capacity cost hs s ws)) (with_entry (labels_of s, ws) hs) hs

abbrev pub strike_answer : Labels → Held → Octets → Result (Unit {0}) Refusal
strike_answer apex hs s =
    of_name s (λ n.
    cond (not (at_or_below n apex)) (Err OutsideZone)
    (cond (same_name n apex) (Err IsApex)
    (cond (is_held n hs) (Ok tt) (Err NotHeld))))

abbrev pub strike_held : Labels → Held → Octets → Held
strike_held apex hs s = cond (is_ok (strike_answer apex hs s)) (without_name (labels_of s) hs) hs

-- seal, with so many record slots: the number of records
abbrev pub unless_clash : Option (ℕ × ℕ) → ℕ → Result ℕ Refusal
unless_clash None n = Ok n
unless_clash (Some p) n = Err (SharedPlace p.0 p.1)

abbrev pub seal_answer : Meaning → ℕ → Labels → Held → ℕ → Result ℕ Refusal
seal_answer o flag apex hs slots =
    cond (nat_lt slots (length (recorded o flag apex hs))) (Err TooFewSlots)
    (unless_clash (clash o flag apex hs) (length (recorded o flag apex hs)))
