use Rattle.std.proofs.Common.{◌-◌, length}
use Rattle.rkyv_collections.proofs.WrittenRoots.{root_keeps}
use Rattle.rkyv_collections.proofs.std_maps.nested.written_values_are_related.Goals as goal

pub returns-clause-root : goal.returns-clause-root
returns-clause-root g c = λ b x made.
    let s = g.B.Archived.HasSpec.spec in
    root_keeps g.W.Width.LIMIT s g.B.Archived.HasSpec.laws g.R.WrittenRelation.related g.B.Archive.format g.met.R.WrittenRelation.written x b (length b - s.size) made
