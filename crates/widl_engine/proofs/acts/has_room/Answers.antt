use Rattle.std.proofs.Common.{◌≡◌, length, arith}
use Rattle.widl_engine.proofs.Acting.{room}
use Rattle.widl_engine.proofs.acts.has_room.Goals as goal

pub returns-in-Some : goal.returns-in-Some
returns-in-Some c s =
    let size : c.len.result ≡ length c.args.place.now.outer.items = omega (arith, c.len.ensures) in
    room s c.args.place.now c.in-Some.field-0 c.len.result c.in-Some.is size
