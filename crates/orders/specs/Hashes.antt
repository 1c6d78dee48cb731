-- Iterated digests.
use Rattle.std.specs.Prelude.{◌≡◌, ℕ, zero, suc, ◌≤◌, true, ◌++◌, length, ◌==◌}
use Rattle.std.proofs.Common.{sym, subst}
use Rattle.std.specs.Cmp.{unsigned_Decides}
use Rattle.names.specs.Wire.{Octets}
use Rattle.orders.specs.Places.{iterated}

pub iterated_length : (hash : Octets → Octets) (w : ℕ) → ((xs : Octets) → length (hash xs) ≡ w) → (salt x : Octets) (k : ℕ) → length (iterated hash salt x k) ≡ w
iterated_length hash w e salt x zero = e (x ++ salt)
iterated_length hash w e salt x (suc k) = e (iterated hash salt x k ++ salt)

pub as_long_at_most : (p : Octets) (w : ℕ) → (length p == w) ≡ true → w ≤ 255 → length p ≤ 255
as_long_at_most p w e h = subst (λ n. n ≤ 255) (sym ((unsigned_Decides (length p) w).0 e)) h
