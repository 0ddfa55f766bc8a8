-- Hash sets in an archive, and the results of lookups in them, as in the map of the keys.
pub mod ListArchives
pub mod SetFormat
pub mod Walking
use Rattle.rkyv_base.specs.declared.element.HasSpec.{Ghosts as Specs}
use Rattle.rkyv_base.specs.declared.width.Word.{Ghosts as Words}
use Rattle.std.specs.Prelude.{ℕ, List, Option}
use Rattle.std.specs.Borrow.{Bor}
use Rattle.std.specs.Int.{Width}
use Rattle.rkyv_base.specs.{ElementSpec, IsAt, unit_spec}
use Rattle.rkyv_base.specs.declared.view.View.{View}
use Rattle.rkyv_keys.specs.{ArchivedKeys, Comparison, KeyLookup, unit_same}
use Rattle.rkyv_collections.specs.Map.Equality.{map_equal}
use Rattle.rkyv_collections.specs.Map.Lookups.{FoundKeyHas, GetsKey, key_part}
use Rattle.rkyv_collections.specs.Map.{key_positions, map_archive, map_bytes}
use Rattle.rkyv_collections.specs.Map.{map_cap, map_len, map_pos}
use Rattle.rkyv_collections.specs.Map.MapSpec.{map_spec}
use Rattle.rkyv_collections.specs.Map.{map_view}
use Rattle.rkyv_collections.specs.Map.Misplaced.{CountsKeysUpTo, misplaced_keys}
use Rattle.rkyv_collections.specs.declared.map.HashMapOf.{HashMapOf}
use Rattle.rkyv_collections.specs.declared.set.ArchivedHashSet.{ArchivedHashSet}

-- the element of a set: the element of a map to the unit value
abbrev pub set_spec : Width → ElementSpec → ElementSpec
set_spec w k = map_spec w k unit_spec

module _ {K H W : Type 0} {ks : Specs K} {wt : Words W} where
  -- the view of the set's header, as the view of the map of the keys
  abbrev pub set_view : ArchivedHashSet K H W ks wt → View (HashMapOf K (Unit {0}) H W)
  set_view s = map_view s.map

  -- the archive of the set
  abbrev pub set_archive : ArchivedHashSet K H W ks wt → Bor (List ℕ)
  set_archive s = map_archive s.map

  -- the bytes of the set's archive
  abbrev pub set_bytes : ArchivedHashSet K H W ks wt → List ℕ
  set_bytes s = map_bytes s.map

  -- the position of the set's header
  abbrev pub set_pos : ArchivedHashSet K H W ks wt → ℕ
  set_pos s = map_pos s.map

  -- the set's header is at `p` of the archive
  abbrev pub IsSetAt : ArchivedHashSet K H W ks wt → Bor (List ℕ) → ℕ → Type 0
  IsSetAt s archive p = IsAt s.map.view archive p

  -- the number of keys
  abbrev pub set_len : ArchivedHashSet K H W ks wt → ℕ
  set_len s = map_len s.map

  -- the number of buckets
  abbrev pub set_cap : ArchivedHashSet K H W ks wt → ℕ
  set_cap s = map_cap s.map

  -- the positions of the keys, in bucket order
  abbrev pub member_positions : ArchivedHashSet K H W ks wt → List ℕ
  member_positions s = key_positions s.map

  -- the property applies to the position that a lookup finds, as in the map of the keys
  abbrev pub FoundMemberHas : ArchivedHashSet K H W ks wt → KeyLookup → (Option ℕ → Type 0) → Type 0
  FoundMemberHas s a P = FoundKeyHas s.map a P

  -- `result`: key that a lookup finds
  abbrev pub GetsMember : ArchivedHashSet K H W ks wt → KeyLookup → Option (View K) → Type 0
  GetsMember s a result = GetsKey key_part s.map a result

-- the sets have the same length, and each key of the first is found in the second
abbrev pub set_equal : Width → ElementSpec → (List ℕ → ℕ → ℕ) → Comparison → Comparison
set_equal w k key_hash same = map_equal w k unit_spec key_hash same unit_same

-- the number of keys that a lookup of their own doesn't find
abbrev pub set_misplaced : {K H W : Type 0} {ks : Specs K} {wt : Words W}
    → ArchivedHashSet K H W ks wt → ArchivedKeys → ℕ
set_misplaced s keys = misplaced_keys s.map keys

-- `result`: number of misplaced keys of a set, or `None` if the lookups of all keys read more
-- than `limit` strides, or more than 2^63
abbrev pub CountsMembersUpTo : {K H W : Type 0} {ks : Specs K} {wt : Words W}
    → ArchivedHashSet K H W ks wt → ArchivedKeys → ℕ → Option ℕ → Type 0
CountsMembersUpTo s keys limit result = CountsKeysUpTo s.map keys limit result
