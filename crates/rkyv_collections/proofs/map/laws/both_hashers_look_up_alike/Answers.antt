use Rattle.rkyv_scan.proofs.HashLaws.{fixed_alike}
use Rattle.rkyv_collections.proofs.Alike.{queried_alike, written_alike}
use Rattle.rkyv_collections.proofs.map.laws.both_hashers_look_up_alike.Goals as goal
use Rattle.std.proofs.Common.{arith}
use Rattle.std.proofs.lemmas.Grind.{common_steps}

pub returns-clause-written : goal.returns-clause-written
returns-clause-written g c =
    written_alike g.W.Word.word g.K.HasSpec.spec g.V.HasSpec.spec g.K.HasSpec.laws g.V.HasSpec.laws g.K.KeyElement.key_calls g.met.K.FixedKey.fixed

pub returns-clause-compared : goal.returns-clause-compared
returns-clause-compared g c = grind (arith, common_steps, fixed_alike)

pub returns-clause-queried : goal.returns-clause-queried
returns-clause-queried g c =
    queried_alike g.W.Word.word g.K.HasSpec.spec g.V.HasSpec.spec g.K.HasSpec.laws g.V.HasSpec.laws g.K.ElementEq.same g.K.KeyElement.key_calls
    g.Q.KeyHash.calls g.Q.Query.fits g.met.Q.Query.query g.met.K.FixedKey.fixed
