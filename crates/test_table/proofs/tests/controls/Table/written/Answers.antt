use Rattle.std.proofs.Common.{◌≡◌, ◌∙◌, arith, length, take, drop, ◌++◌}
use Rattle.std.proofs.lemmas.List.{take-append-le, take_all}
use Rattle.rkyv_table.proofs.WrittenAccepted.{accepted_written}
use Rattle.test_table.proofs.tests.controls.Table.written.Goals as goal

pub invariant_of-result : goal.invariant_of-result
invariant_of-result g c =
    let w = c.in_ok-homes.ensures.written in
    let count = w.wrapped.count in
    let len = c.in_ok-controls.ensures.len in
    let e = c.control_count.ensures in
    let v = c.in_ok-controls.controls in
    let new = c.place.new.controls in
    let n : length new ≡ v.len = omega arith in
    let k : take v.len (new ++ drop (length new) v.items) ≡ new = take-append-le v.len new (drop (length new) v.items) (omega arith) ∙ take_all v.len new (omega arith) in
    record { accepted = rw k (accepted_written c.args.cap c.args.hashes.now c.in_ok-homes.homes.items new c.requires.room w (λ j l. (c.type_inv.hashes j).fits)) }
