use Rattle.std.proofs.Common.{arith}
use Rattle.rkyv_table.specs.{is_empty_at, strides}
use Rattle.rkyv_table.proofs.Written.{probed_below}
use Rattle.rkyv_table.proofs.controls.place.place_from.Goals as goal

pub bounds-controls-bucket : goal.bounds-controls-bucket
bounds-controls-bucket g c =
    let cap' = c.args.cap in
    let below = probed_below (is_empty_at c.args.controls.now) cap' c.home-bucket.result (strides c.args.hash cap') (omega (arith, c.requires.room.1)) c.home-bucket.ensures in
    omega (arith, below, c.requires.wrapped.count)
