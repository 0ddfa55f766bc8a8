use Rattle.std.proofs.Common.{arith}
use Rattle.rkyv_keys.specs.{hash_of}
use Rattle.rkyv_collections.specs.{map_bytes, map_pos}
use Rattle.rkyv_collections.proofs.StdFinding.{accepted_none, accepted_some}
use Rattle.rkyv_collections.proofs.map.ArchivedHashMap.agrees_on.Goals as goal

pub returns-in-Some : goal.returns-in-Some
returns-in-Some g c =
    accepted_some g.W.Word.word g.K.HasSpec.spec g.V.HasSpec.spec (hash_of g.H.KeyHasher.hasher g.A.KeyHash.calls) g.A.Query.fits g.V.MatchesNative.equals (map_bytes c.args.self) (map_pos c.args.self)
    c.args.key.now (g.A.PartialEq.eq c.args.key.now) c.args.other.now.entries c.in-Some.value.now c.finds_equal.result c.in-Some.ensures.value c.finds_equal.ensures

pub returns-in-None : goal.returns-in-None
returns-in-None g c = grind (arith, accepted_none)
