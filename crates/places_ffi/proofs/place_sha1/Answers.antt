use Rattle.orders.specs.Salts.{salt_of, iterations_of}
use Rattle.places_ffi.proofs.Places.{made, told}
use Rattle.places_ffi.proofs.place_sha1.Goals as goal

pub returns-in-Ok : goal.returns-in-Ok
returns-in-Ok c =
    let m = made _ _ c.args.salt.now (salt_of c.in-Ok.order) c.args.iterations (iterations_of c.in-Ok.order) c.in-Ok.ensures in
    let t = told c.args.salt.now _ c.args.name.now c.args.iterations _ c.unwrap_or.result c.args.out.now c.write_place.new.out c.write_place.result m c.write_place.ensures.value c.unwrap_or.ensures c.write_place.ensures.buffer in
    record { value = t.value; buffer = t.buffer }
