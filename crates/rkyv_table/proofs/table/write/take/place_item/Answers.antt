use Rattle.std.proofs.Common.{arith}
use Rattle.std.proofs.lemmas.Grind.{common_steps}
use Rattle.rkyv_table.proofs.PlacingSteps.{bucket_inside, placed_more, placed_room}
use Rattle.rkyv_table.proofs.table.write.take.place_item.Goals as goal

pub place_from-bucket-requires-clause-room : goal.place_from-bucket-requires-clause-room
place_from-bucket-requires-clause-room g c = placed_room c.args.cap c.requires.room.0 c.args.slots.now c.args.controls.now c.requires.room.2 c.requires.room.1

pub put-requires : goal.put-requires
put-requires g c =
    let r = c.requires.room in
    bucket_inside c.args.cap r.0 c.args.slots.now c.args.controls.now (omega (arith, r.1)) r.2 c.args.hash c.place_from-bucket.result c.place_from-bucket.ensures.first

pub returns : goal.returns
returns g c = grind (arith, common_steps, placed_more)
