use Rattle.std.proofs.Common.{arith, ℕ}
use Rattle.std.proofs.lemmas.Grind.{common_steps}
use Rattle.std.proofs.lemmas.Result.{err_from_is_err_and}
use Rattle.rkyv_index.specs.{key_pos, keys_of, set_bytes}
use Rattle.rkyv_index.proofs.ListSteps.{above_zero, one_pushed}
use Rattle.rkyv_index.proofs.set.ArchivedIndexSet.deserialize_items.Goals as goal

pub returns-in_err-list : goal.returns-in_err-list
returns-in_err-list g c = grind (arith, err_from_is_err_and, above_zero)

pub loop-index-preserved : goal.loop-index-preserved
loop-index-preserved g c =
    let s = c.args.self in
    let Related : ℕ → g.row.A.Denot → Type 0 = λ i item. g.K.Represents.represents (set_bytes s) (key_pos (keys_of s) i) item in
    let inv = c.loop-index.invariant in
    let more = one_pushed Related c.loop-index.list.items c.push_reserved.new.self.items c.in_ok-item.item c.loop-index.index c.push_reserved.ensures.items inv.0 inv.1 c.in_ok-item.ensures in
    (more.0, more.1, rw c.push_reserved.ensures.capacity inv.2)

pub returns-in_err-item : goal.returns-in_err-item
returns-in_err-item g c = grind (arith, common_steps, err_from_is_err_and)
