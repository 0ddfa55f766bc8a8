use Rattle.std.proofs.Common.{arith, ℕ, List, take, length-take}
use Rattle.std.proofs.lemmas.Grind.{common_steps}
use Rattle.std.proofs.lemmas.List.{take_more}
use Rattle.rkyv_table.proofs.WrittenStep.{all_fit, one_more, room_left}
use Rattle.rkyv_table.proofs.controls.place.place.Goals as goal

pub place_one-bucket-requires-clause-room : goal.place_one-bucket-requires-clause-room
place_one-bucket-requires-clause-room g c =
    let i = c.loop-hash.hash-index in
    let hs : List ℕ = c.args.hashes.now in
    let fits = all_fit hs i (λ j. (c.type_inv.hashes j).fits) in
    let r = c.requires.room in
    let l = length-take i hs in
    room_left c.args.cap (take i hs) c.loop-hash.homes.items c.loop-hash.controls c.loop-hash.invariant fits (omega arith)

pub loop-hash-preserved : goal.loop-hash-preserved
loop-hash-preserved g c = grind (arith, common_steps, all_fit, take_more, one_more)

pub loop-hash-init : goal.loop-hash-init
loop-hash-init g c = grind (arith, common_steps)

pub returns-clause-written : goal.returns-clause-written
returns-clause-written g c = grind (arith, common_steps)
