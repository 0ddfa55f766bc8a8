use Rattle.std.proofs.Common.{rules}
use Rattle.rkyv_table.proofs.FoundWrites.{unwritten_if_none, written_at_found}
use Rattle.rkyv_index.proofs.FoundValues.{found_by_implied}
use Rattle.rkyv_index.proofs.map.ArchivedIndexMap.found_by.Goals as goal

pub returns : goal.returns
returns g c =
    let met = c.write.ensures in
    found_by_implied (λ index at. search (rules, written_at_found)) c.in_ok-pos.ensures.finds

pub returns-in_err-pos : goal.returns-in_err-pos
returns-in_err-pos g c =
    found_by_implied (λ index at. rw c.from_residual.ensures (unwritten_if_none (goal.G-post g) c.args.write c.args.archive.now _ at)) c.in_err-pos.ensures.finds
