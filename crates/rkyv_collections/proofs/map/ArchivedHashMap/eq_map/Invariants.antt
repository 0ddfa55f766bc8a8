use Rattle.std.proofs.Common.{◌≡◌, ℕ, Bool}
use Rattle.std.specs.List.{list_all}
use Rattle.rkyv_keys.specs.{hash_at}
use Rattle.rkyv_collections.specs.{key_positions, map_archive, map_bytes, map_pos, pair_matches}
use Rattle.rkyv_collections.proofs.map.ArchivedHashMap.eq_map.Given as goal

-- the remaining pairs are in the first map, and all pairs match if the remaining ones do
abbrev pub invariant-loop-key : goal.invariant-loop-key
invariant-loop-key g l =
    let w = g.W.Word.word in
    let k = g.K.HasSpec.spec in
    let v = g.V.HasSpec.spec in
    let key_hash = hash_at g.H.KeyHasher.hasher g.K.KeyElement.key_calls in
    let matches : ℕ → Bool = λ q. pair_matches w k v key_hash g.K.ElementEq.same g.V.ElementEq.same (map_bytes l.self) q (map_bytes l.other) (map_pos l.other) in
    (l.key-iterator.archive ≡ map_archive l.self)
    × (list_all matches (key_positions l.self) ≡ list_all matches l.key-iterator.positions)
