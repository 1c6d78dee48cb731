-- Names that cost their length.
use Rattle.std.specs.Prelude.{ℕ, ◌-◌, cond, length, Some, None, Option, nat_le}
use Rattle.names.specs.Wire.{Labels, wire}
use Rattle.books.specs.Held.{Held, spent}

-- how many octets a name has
abbrev pub octets_of : Labels → ℕ
octets_of n = length (wire n)

-- what held names leave of so many octets, if these suffice
abbrev pub rest : ℕ → Held → Option ℕ
rest octets held = cond (nat_le (spent octets_of held) octets) (Some (octets - spent octets_of held)) None
