use Rattle.rkyv_collections.proofs.MatchedKeys.{finds_matched}
use Rattle.rkyv_collections.proofs.map.laws.matched_keys_are_found.Goals as goal

pub returns : goal.returns
returns g c =
    finds_matched g.W.Word.word g.K.HasSpec.spec g.V.HasSpec.spec g.K.HasSpec.laws g.V.HasSpec.laws g.H.KeyHasher.hasher g.K.ElementEq.same
    g.K.KeyElement.key_calls g.Q.KeyHash.calls g.Q.Query.fits g.met.Q.Query.query (λ q. g.met.H.KeyHasher.fits (g.Q.KeyHash.calls q))
