use Rattle.std.proofs.Common.{ℕ, ◌≡◌, ◌≤◌, ◌+◌, ◌-◌, filter, length}
use Rattle.std.specs.List.{range_with_len, sum_by}
use Rattle.rkyv_keys.specs.{ArchivedKeys, hash_at}
use Rattle.rkyv_table.specs.{count_after}
use Rattle.rkyv_index.specs.{index_len, index_misplaced, index_of, is_misplaced, keys_strides, own_strides}
use Rattle.rkyv_index.proofs.map.ArchivedIndexMap.misplaced_up_to_counted.Given as goal

-- the number of misplaced keys is the count and the number of those that remain,
-- and the strides of all keys are the strides that were read and the remaining keys' strides
abbrev pub invariant-loop-index : goal.invariant-loop-index
invariant-loop-index g l =
    let m = index_of l.fn.self in
    let n : ℕ = index_len l.fn.self in
    let keys : ArchivedKeys = record { hash = hash_at g.H.KeyHasher.hasher g.K.KeyElement.key_calls; same = g.K.ElementEq.same } in
    record {
      few : l.count ≤ l.index;
      exact : l.count + length (filter (is_misplaced m keys) (range_with_len l.index (n - l.index))) ≡ index_misplaced m keys;
      spent : keys_strides m keys ≡ l.limit - l.left + sum_by (own_strides m keys) (range_with_len l.index (n - l.index));
      within : l.left ≤ l.limit;
      read : l.strides ≡ count_after l.initial.strides (l.limit - l.left);
    }
