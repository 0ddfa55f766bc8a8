use Rattle.rkyv_keys.specs.Lemmas.QueryLaws.{fits_by_value}
use Rattle.rkyv_keys.proofs.laws.queries_fit_by_value.Goals as goal

pub returns : goal.returns
returns g c =
    fits_by_value g.K.HasSpec.spec g.K.ElementEq.same g.K.KeyElement.key_calls g.V.KeyHash.calls g.V.Query.fits
    g.K.Represents.represents g.V.PartialEq.eq g.met.V.Eq.laws.refl g.met.V.Query.query g.met.V.NativeKey.native
    g.Q.KeyHash.calls g.Q.Query.fits g.met.Q.Query.query g.met.K.ElementEquiv.equivalence
