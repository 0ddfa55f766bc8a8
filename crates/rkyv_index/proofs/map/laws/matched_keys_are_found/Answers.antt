use Rattle.rkyv_index.proofs.MatchedKeys.{finds_same_key}
use Rattle.rkyv_index.proofs.map.laws.matched_keys_are_found.Goals as goal

pub returns : goal.returns
returns g c = λ m q homes i written below fits.
    finds_same_key m g.H.KeyHasher.hasher g.K.ElementEq.same g.K.KeyElement.key_calls g.Q.KeyHash.calls g.Q.Query.fits g.met.Q.Query.query q
    (g.met.H.KeyHasher.fits (g.Q.KeyHash.calls q)) homes written i below fits
