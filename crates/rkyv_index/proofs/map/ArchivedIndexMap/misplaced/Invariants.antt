use Rattle.std.proofs.Common.{List, ℕ, ◌≡◌, ◌≤◌, ◌+◌, ◌-◌, filter, length}
use Rattle.std.specs.List.{range_with_len}
use Rattle.rkyv_keys.specs.{ArchivedKeys, hash_at}
use Rattle.rkyv_index.specs.{IsWritten, index_len, index_misplaced, index_of, index_repeated, is_misplaced, is_repeated}
use Rattle.rkyv_index.proofs.map.ArchivedIndexMap.misplaced.Given as goal

-- the number of misplaced keys is the count and the number of those that remain
abbrev pub invariant-loop-index : goal.invariant-loop-index
invariant-loop-index g l =
    let m = index_of l.fn.self in
    let n : ℕ = index_len l.fn.self in
    let keys : ArchivedKeys = record { hash = hash_at g.H.KeyHasher.hasher g.K.KeyElement.key_calls; same = g.K.ElementEq.same } in
    record {
      few : l.count ≤ l.index;
      exact : l.count + length (filter (is_misplaced m keys) (range_with_len l.index (n - l.index))) ≡ index_misplaced m keys;
      repeated : (homes : List ℕ) → IsWritten m keys.hash homes
          → l.count + length (filter (is_repeated m keys) (range_with_len l.index (n - l.index))) ≡ index_repeated m keys;
    }
