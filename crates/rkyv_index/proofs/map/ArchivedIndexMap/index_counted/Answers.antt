use Rattle.rkyv_index.specs.{fits_at, index_of}
use Rattle.rkyv_index.proofs.Queries.{compares_fits}
use Rattle.rkyv_index.proofs.QueryIndices.{query_index}
use Rattle.rkyv_index.proofs.map.ArchivedIndexMap.index_counted.Goals as goal

pub returns-clause-found : goal.returns-clause-found
returns-clause-found g c =
    query_index c.args.self
    g.H.KeyHasher.hasher g.K.ElementEq.same g.K.KeyElement.key_calls g.Q.KeyHash.calls g.Q.Query.fits g.met.Q.Query.query c.args.key.now c.index_with.ensures.hash
    _ (λ key r e. e.1) c.index_with.result c.index_with.ensures.found

pub returns-clause-counted : goal.returns-clause-counted
returns-clause-counted g c =
    let m = c.args.self in
    let fits = g.Q.Query.fits c.args.key.now in
    c.index_with.ensures.counted (fits_at (index_of m) fits) (compares_fits m fits _ (λ key r e. e.1))
