use Rattle.std.proofs.Common.{refl, rules}
use Rattle.rkyv_index.specs.{IsPairOf, full_part}
use Rattle.rkyv_index.proofs.FromIndex.{by_as}
use Rattle.rkyv_index.proofs.map.ArchivedIndexMap.get_full_with.Goals as goal

pub returns : goal.returns
returns g c =
    let there : IsPairOf c.args.self c.in_ok-index.index (c.key.result, c.value.result) = search rules in
    by_as full_part c.in_ok-index.ensures.found (c.in_ok-index.ensures.found.walked.0, there) refl

pub returns-in_err-index : goal.returns-in_err-index
returns-in_err-index g c = rw c.from_residual.ensures (by_as full_part c.in_err-index.ensures.found tt refl)
