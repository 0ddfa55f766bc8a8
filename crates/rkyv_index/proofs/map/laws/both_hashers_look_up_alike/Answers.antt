use Rattle.std.proofs.Common.{ap}
use Rattle.rkyv_scan.proofs.HashLaws.{fixed_alike}
use Rattle.rkyv_index.specs.{index_found}
use Rattle.rkyv_index.proofs.Alike.{queried_alike, written_alike}
use Rattle.rkyv_index.proofs.map.laws.both_hashers_look_up_alike.Goals as goal

pub returns-clause-written : goal.returns-clause-written
returns-clause-written g c =
    written_alike g.W.Word.word g.met.W.Width.layout.kind g.K.HasSpec.spec g.V.HasSpec.spec g.K.HasSpec.laws g.V.HasSpec.laws g.K.KeyElement.key_calls g.met.K.FixedKey.fixed

pub returns-clause-compared : goal.returns-clause-compared
returns-clause-compared g c = λ one other calls fixed b p accept.
    ap (λ hash. index_found g.W.Word.word b p hash accept) (fixed_alike one other calls fixed)

pub returns-clause-queried : goal.returns-clause-queried
returns-clause-queried g c =
    queried_alike g.W.Word.word g.met.W.Width.layout.kind g.K.HasSpec.spec g.V.HasSpec.spec g.K.HasSpec.laws g.V.HasSpec.laws g.K.KeyElement.key_calls g.met.K.FixedKey.fixed
    g.K.ElementEq.same g.Q.KeyHash.calls g.Q.Query.fits g.met.Q.Query.query
