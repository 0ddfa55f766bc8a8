use Rattle.std.proofs.Common.{ap}
use Rattle.rkyv_scan.specs.{hash_of_calls}
use Rattle.rkyv_keys.specs.{hash_at}
use Rattle.rkyv_collections.proofs.MisplacedKeys.{repeated_keys_misplaced}
use Rattle.rkyv_collections.proofs.map.laws.repeated_keys_are_misplaced.Goals as goal

pub returns : goal.returns
returns g c =
    repeated_keys_misplaced g.W.Word.word g.K.HasSpec.spec g.V.HasSpec.spec g.K.HasSpec.laws g.V.HasSpec.laws
    (hash_at g.H.KeyHasher.hasher g.K.KeyElement.key_calls) g.K.ElementEq.same
    g.met.K.ElementEquiv.equivalence
    (λ b c q r h g' same. ap (hash_of_calls g.H.KeyHasher.hasher) (g.met.K.KeyElement.key.same_calls b c q r h g' same))
