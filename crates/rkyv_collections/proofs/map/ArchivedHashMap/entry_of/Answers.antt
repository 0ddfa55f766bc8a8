use Rattle.rkyv_collections.specs.{entry_part}
use Rattle.rkyv_collections.proofs.FoundThrough.{gets_query}
use Rattle.rkyv_collections.proofs.map.ArchivedHashMap.entry_of.Goals as goal

pub returns : goal.returns
returns g c =
    gets_query c.args.self g.H.KeyHasher.hasher g.K.HasSpec.laws g.V.HasSpec.laws g.K.ElementEq.same g.K.KeyElement.key_calls
    g.Q.KeyHash.calls g.Q.Query.fits g.met.Q.Query.query c.args.self.valid c.args.key.now c.entry_with.ensures.hash
    _ (λ key r e. e.1) entry_part c.entry_with.result c.entry_with.ensures.found
