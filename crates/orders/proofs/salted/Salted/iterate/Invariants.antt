use Rattle.std.proofs.Common.{◌≡◌, length}
use Rattle.orders.specs.Salts.{salt_of}
use Rattle.orders.proofs.Hashing.{Step}
use Rattle.orders.proofs.salted.Salted.iterate.Given as goal

abbrev pub invariant-loop : goal.invariant-loop
invariant-loop g l = (l.n ≡ g.D.Digest.LEN) × Step g.D.Digest.hash g.D.Digest.LEN (salt_of l.self) l.octets l.initial.out l.counter l.out × (length l.out ≡ 255)
