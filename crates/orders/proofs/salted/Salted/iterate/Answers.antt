use Rattle.orders.specs.Salts.{salt_of}
use Rattle.orders.proofs.Hashing.{step_more}
use Rattle.orders.proofs.salted.Salted.iterate.Goals as goal

pub loop-preserved : goal.loop-preserved
loop-preserved g c = (c.digest-n-in-loop.ensures.value, step_more g.D.Digest.hash g.D.Digest.LEN g.met.D.Digest.exact (salt_of c.args.self.now) c.salt-salt.result.now c.args.octets.now c.digest-n.new.out c.loop.counter c.loop.n c.loop.out c.digest-n-in-loop.new.out c.salt-salt.ensures c.loop.invariant.0 c.loop.invariant.1 c.digest-n-in-loop.ensures.buffer, c.digest-n-in-loop.array_long)
