use Rattle.rkyv_keys.specs.{hash_of}
use Rattle.rkyv_collections.specs.{FindsPair, map_bytes, map_pos}
use Rattle.rkyv_collections.proofs.StdComparing.{Decides}
use Rattle.rkyv_collections.proofs.map.ArchivedHashMap.eq_std.Given as goal

-- all pairs are found if and only if the remaining ones are
abbrev pub invariant-loop-key : goal.invariant-loop-key
invariant-loop-key g l =
    let hash = hash_of g.H.KeyHasher.hasher g.A.KeyHash.calls in
    Decides (FindsPair g.W.Word.word g.K.HasSpec.spec g.V.HasSpec.spec hash g.A.Query.fits g.V.MatchesNative.equals (map_bytes l.self) (map_pos l.self)) l.other.entries l.key-iterator
