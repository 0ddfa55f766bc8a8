use Rattle.std.proofs.Common.{◌-◌, length}
use Rattle.rkyv_collections.proofs.WrittenRoots.{root_keeps}
use Rattle.rkyv_collections.proofs.std_maps.laws.archives_round_trip.Goals as goal

pub returns : goal.returns
returns g c = λ value b made.
    let s = g.M.Archived.HasSpec.spec in (
      root_keeps g.W.Width.LIMIT s g.M.Archived.HasSpec.laws g.M.Archived.MatchesNative.equals g.M.Archive.format g.met.M.EqualsWritten.equal value b (length b - s.size) made.2,
      λ back represents. g.met.M.Archived.RepresentsUniquely.once back value b (length b - s.size) made.0.valid represents made.1,
    )
