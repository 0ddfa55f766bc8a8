-- The keys of a map that a lookup of their own doesn't find.
use Rattle.rkyv_base.specs.declared.element.HasSpec.{Ghosts as Specs}
use Rattle.rkyv_base.specs.declared.width.Word.{Ghosts as Words}
use Rattle.std.specs.Prelude.{◌≡◌, ℕ, ◌<◌, ◌≤◌, List, Bool, Option, MatchOption}
use Rattle.std.specs.Int.{Width}
use Rattle.rkyv_base.specs.{ElementSpec, Viewable, entry_spec}
use Rattle.rkyv_keys.specs.{ArchivedKeys, Comparison}
use Rattle.rkyv_table.specs.{IsOnlyAccepted, home_positions, item_strides, misplaced_items}
use Rattle.rkyv_table.specs.{repeated}
use Rattle.rkyv_collections.specs.Map.{MapWrittenAt, map_bytes, map_pos}
use Rattle.rkyv_collections.specs.Map.MapSpec.{map_spec}
use Rattle.rkyv_collections.specs.declared.map.ArchivedHashMap.{ArchivedHashMap}

-- the number of keys for which a lookup of their own finds another key, or none
abbrev pub map_misplaced : Width → ElementSpec → ElementSpec → (List ℕ → ℕ → ℕ) → Comparison
    → List ℕ → ℕ → ℕ
map_misplaced w k v key_hash same_key b p =
    misplaced_items w (entry_spec k v).size b p (key_hash b) (λ q r. same_key b q b r)

-- the number of misplaced keys of a map
abbrev pub misplaced_keys : {K V H W : Type 0} {ks : Specs K} {vs : Specs V} {wt : Words W}
    → ArchivedHashMap K V H W ks vs wt → ArchivedKeys → ℕ
misplaced_keys {ks = ks} {vs = vs} {wt = wt} m keys =
    map_misplaced wt.word ks.spec vs.spec keys.hash keys.same (map_bytes m) (map_pos m)

-- the number of strides that the lookups of all keys of a map read
abbrev pub map_strides : Width → ElementSpec → ElementSpec → (List ℕ → ℕ → ℕ) → Comparison → List ℕ
    → ℕ → ℕ
map_strides w k v key_hash same_key b p =
    item_strides w (entry_spec k v).size b p (key_hash b) (λ q r. same_key b q b r)

-- `result`: number of misplaced keys of a map, or `None` if the lookups of all keys read more
-- than `limit` strides
abbrev pub CountsKeysUpTo : {K V H W : Type 0} {ks : Specs K} {vs : Specs V} {wt : Words W}
    → ArchivedHashMap K V H W ks vs wt → ArchivedKeys → ℕ → Option ℕ → Type 0
CountsKeysUpTo {ks = ks} {vs = vs} {wt = wt} m keys limit result =
    let strides : ℕ =
    map_strides wt.word ks.spec vs.spec keys.hash keys.same (map_bytes m) (map_pos m) in
    MatchOption result (limit < strides) (λ n. (strides ≤ limit) × (n ≡ misplaced_keys m keys))

-- in a valid written map, the number of misplaced keys is the number of keys
-- that are the same as an earlier key
abbrev pub RepeatedKeysAreMisplaced : Width → ElementSpec → ElementSpec → ArchivedKeys → Type 0
RepeatedKeysAreMisplaced w k v keys =
    (b : List ℕ) (p : ℕ) (homes : List ℕ) → Viewable (map_spec w k v) b p
    → MapWrittenAt w (entry_spec k v) keys.hash b p homes
    → map_misplaced w k v keys.hash keys.same b p
    ≡ repeated (λ q r. keys.same b q b r) (home_positions w (entry_spec k v).size b p homes)

-- If no key of the map at `p` is misplaced, the property applies to the position of the only key
-- that fits, or to `None` if no key fits
abbrev pub FindsOneKeyAt : Width → ElementSpec → ElementSpec → List ℕ → ℕ → (List ℕ → ℕ → ℕ)
    → Comparison → (ℕ → Bool) → (Option ℕ → Type 0) → Type 0
FindsOneKeyAt w k v b p key_hash same_key fits P =
    map_misplaced w k v key_hash same_key b p ≡ 0
    → (key_pos : Option ℕ) × IsOnlyAccepted w (entry_spec k v).size b p fits key_pos × P key_pos

-- the same for a map
abbrev pub FindsOneKey : {K V H W : Type 0} {ks : Specs K} {vs : Specs V} {wt : Words W}
    → ArchivedHashMap K V H W ks vs wt → (List ℕ → ℕ → ℕ) → Comparison → (ℕ → Bool)
    → (Option ℕ → Type 0) → Type 0
FindsOneKey {ks = ks} {vs = vs} {wt = wt} m key_hash same_key fits P =
    FindsOneKeyAt wt.word ks.spec vs.spec (map_bytes m) (map_pos m) key_hash same_key fits P
