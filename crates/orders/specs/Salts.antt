-- Salted orders.
use Rattle.std.specs.Prelude.{ℕ, Bool, cond, ◌&&◌, length, take, Ok, Err, Result, nat_le}
use Rattle.names.specs.Wire.{Octets}
use Rattle.names.specs.declared.refusal.Refusal.{Refusal}
use Rattle.names.specs.declared.refusal.Refusal.TheVariants.{SettingNotAllowed}
use Rattle.orders.specs.declared.salted.Salted.{Salted}

abbrev pub digest_of : {D : Type 0} → Salted D → D
digest_of o = o.digest

abbrev pub salt_of : {D : Type 0} → Salted D → Octets
salt_of o = take o.salt_len o.salt

abbrev pub iterations_of : {D : Type 0} → Salted D → ℕ
iterations_of o = o.iterations

-- a salt of at most 32 octets and at most 150 further iterations
abbrev pub allowed : Octets → ℕ → Bool
allowed salt k = nat_le (length salt) 32 && nat_le k 150

-- what an order is made of: its digest, its salt and its further iterations
abbrev pub parts : {D : Type 0} → Salted D → D × (Octets × ℕ)
parts o = (digest_of o, (salt_of o, iterations_of o))

-- what is made of these parts, or the refusal
abbrev pub made_of : {D : Type 0} → D → Octets → ℕ → Result (D × (Octets × ℕ)) Refusal
made_of d salt k = cond (allowed salt k) (Ok (d, (salt, k))) (Err SettingNotAllowed)

abbrev pub parts_of : {D : Type 0} → Result (Salted D) Refusal → Result (D × (Octets × ℕ)) Refusal
parts_of (Ok o) = Ok (parts o)
parts_of (Err e) = Err e
