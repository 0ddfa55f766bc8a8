-- Index sets in an archive, by the index map of their keys.
use Rattle.rkyv_base.specs.declared.element.HasSpec.{Ghosts as Specs}
use Rattle.rkyv_base.specs.declared.width.Word.{Ghosts as Words}
use Rattle.std.specs.Prelude.{ℕ, Bool, List, Option}
use Rattle.std.specs.Int.{Width}
use Rattle.rkyv_base.specs.{ElementSpec, entry_spec, unit_spec}
use Rattle.rkyv_base.specs.Lemmas.Empty.{unit_element}
use Rattle.rkyv_base.specs.declared.view.View.{View}
use Rattle.rkyv_keys.specs.{Comparison, unit_same}
use Rattle.rkyv_index.specs.Map.Equality.{index_map_equal, index_maps_equal}
use Rattle.rkyv_index.specs.Map.{Index, IsKeyOf, MatchesAt, index_bytes, index_of, index_pos}
use Rattle.rkyv_index.specs.Map.IndexLayout.{index_spec}
use Rattle.rkyv_index.specs.declared.map.ArchivedIndexMap.{ArchivedIndexMap}
use Rattle.rkyv_index.specs.declared.set.ArchivedIndexSet.{ArchivedIndexSet}

-- the spec of an index set: the spec of an index map to the unit value
abbrev pub index_set_spec : Width → ElementSpec → ElementSpec
index_set_spec w k = index_spec w (entry_spec k unit_spec)

-- Two index sets in bytes have the same length, and the same keys in order.
-- `same`: comparison of keys
abbrev pub index_set_equal : Width → ElementSpec → Comparison → Comparison
index_set_equal w k same = index_map_equal w k unit_spec same unit_same

-- the spec and the laws of the unit value
abbrev pub unit_specs : Specs (Unit {0})
unit_specs = record { spec = unit_spec; laws = unit_element }

module _ {K H W : Type 0} {ks : Specs K} {wt : Words W} where
  -- the index map of the keys to the unit value
  abbrev pub keys_of : ArchivedIndexSet K H W ks wt
      → ArchivedIndexMap K (Unit {0}) H W ks unit_specs wt
  keys_of s = s.map

  -- the bytes of the archive
  abbrev pub set_bytes : ArchivedIndexSet K H W ks wt → List ℕ
  set_bytes s = index_bytes (keys_of s)

  -- the position of the header
  abbrev pub set_pos : ArchivedIndexSet K H W ks wt → ℕ
  set_pos s = index_pos (keys_of s)

  -- the index set `s` for lookups: the index map of its keys
  abbrev pub index_of_set : ArchivedIndexSet K H W ks wt → Index K
  index_of_set s = index_of (keys_of s)

  -- the index sets `s` and `t` that are read have the same length, and the same keys in order
  abbrev pub index_sets_equal : Comparison → ArchivedIndexSet K H W ks wt
      → ArchivedIndexSet K H W ks wt → Bool
  index_sets_equal same s t = index_maps_equal same unit_same (keys_of s) (keys_of t)

  -- `key`: view of the key at index `i`
  abbrev pub IsMemberOf : ArchivedIndexSet K H W ks wt → ℕ → View K → Type 0
  IsMemberOf s i key = IsKeyOf (keys_of s) i key

  -- `result`: the key at `index`, or `None` if `index` is `None`
  abbrev pub IsMemberAt : ArchivedIndexSet K H W ks wt → Option (View K) → Option ℕ → Type 0
  IsMemberAt s result index = MatchesAt (IsMemberOf s) result index
