-- What the functions that read text return.
use Rattle.std.specs.Prelude.{◌≡◌, ℕ, ◌⊎◌, List, Some, None, Ok, Err, Option, Result}
use Rattle.std.specs.Borrow.{Bor}
use Rattle.script.specs.declared.fault.Fault.{Fault}
use Rattle.script.specs.declared.fault.Fault.TheVariants.{NoMemory}

-- r holds what the text stands for, as `held` sees it; or it is an error:
-- the given one where the text stands for nothing, or that there is no memory
abbrev pub Reads : {X Y : Type 0} → (X → Y) → Fault → Result X Fault → Option Y → Type 0
Reads held fault (Ok x) o = o ≡ Some (held x)
Reads held fault (Err e) o = (e ≡ NoMemory) ⊎ ((e ≡ fault) × (o ≡ None))

-- a row of a table of words, as the code holds it
abbrev pub row : Bor (List ℕ) × ℕ → List ℕ × ℕ
row e = (e.0.now, e.1)
