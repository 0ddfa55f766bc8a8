use Rattle.rkyv_keys.specs.Lemmas.QueryLaws.{hashes_as_written}
use Rattle.rkyv_keys.proofs.laws.native_keys_hash_as_written.Goals as goal

pub returns : goal.returns
returns g c =
    hashes_as_written g.K.HasSpec.spec g.K.ElementEq.same g.K.KeyElement.key_calls g.V.KeyHash.calls g.V.Query.fits
    g.K.Represents.represents g.V.PartialEq.eq g.met.V.Eq.laws.refl g.met.V.Query.query g.met.V.NativeKey.native
