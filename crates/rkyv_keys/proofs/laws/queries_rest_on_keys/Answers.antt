use Rattle.rkyv_keys.specs.Lemmas.QueryLaws.{rests_on_keys}
use Rattle.rkyv_keys.proofs.laws.queries_rest_on_keys.Goals as goal

pub returns : goal.returns
returns g c = rests_on_keys g.K.HasSpec.laws g.met.K.ElementEquiv.equivalence g.met.K.KeyElement.key g.met.Q.Query.query
