-- The equality of two maps.
use Rattle.rkyv_base.specs.declared.element.HasSpec.{Ghosts as Specs}
use Rattle.rkyv_base.specs.declared.width.Word.{Ghosts as Words}
use Rattle.std.specs.Prelude.{◌≡◌, ℕ, ◌+◌, ◌<◌, ◌↔◌, List, Bool, true, false, ◌&&◌, ◌==◌, length}
use Rattle.std.specs.Prelude.{slice_index}
use Rattle.std.specs.Int.{Width}
use Rattle.std.specs.List.{list_all}
use Rattle.std.specs.Option.{option_map, unwrap_or}
use Rattle.rkyv_base.specs.{ElementSpec, Viewable, bytes_of, entry_spec, pos_of, value_offset}
use Rattle.rkyv_base.specs.declared.view.View.{View}
use Rattle.rkyv_keys.specs.{Comparison, entry_same}
use Rattle.rkyv_table.specs.{item_at, item_found, item_positions, len_at}
use Rattle.rkyv_collections.specs.Map.{MapWrittenAt, map_bytes, map_pos}
use Rattle.rkyv_collections.specs.declared.map.ArchivedHashMap.{ArchivedHashMap}
use Rattle.rkyv_collections.specs.Map.MapSpec.{map_spec}

-- the position of the pair with the number `i`, in insertion order
abbrev pub pair_at : Width → ElementSpec → ElementSpec → List ℕ → ℕ → List ℕ → ℕ → ℕ
pair_at w k v b p homes i = item_at w (entry_spec k v).size b p (slice_index homes i)

module _ (w : Width) (k v : ElementSpec) (key_hash : List ℕ → ℕ
    → ℕ) (same_key same_value : Comparison) where
  -- a lookup of the key at `q` in `b` finds the same value in the map at `r` in `c`
  abbrev pub pair_matches : List ℕ → ℕ → List ℕ → ℕ → Bool
  pair_matches b q c r =
      unwrap_or
      (option_map (λ at. same_value b (q + value_offset k v) c (at + value_offset k v))
      (item_found w (entry_spec k v).size c r (key_hash b q) (same_key b q c)))
      false

  -- the maps have the same length, and each pair of the first is matched in the second
  abbrev pub map_equal : Comparison
  map_equal b p c r = (len_at w b p == len_at w c r)
      && list_all (λ q. pair_matches b q c r) (item_positions w (entry_spec k v).size b p)

  -- a valid map, written with the home buckets `homes`, of distinct keys
  pub record IsWrittenApart (b : List ℕ) (p : ℕ) (homes : List ℕ) : Type 0 where
    pub valid : Viewable (map_spec w k v) b p
    pub written : MapWrittenAt w (entry_spec k v) key_hash b p homes
    pub apart : (i j : ℕ) → i < length homes → j < length homes
        → same_key b (pair_at w k v b p homes i) b (pair_at w k v b p homes j) ≡ true → i ≡ j

  -- each pair of the first map is the same as one of the second
  abbrev pub EachIsIn : List ℕ → ℕ → List ℕ → List ℕ → ℕ → List ℕ → Type 0
  EachIsIn b p homes c r others =
      (i : ℕ) → i < length homes → (j : ℕ) × (j < length others)
      × (entry_same k v same_key same_value b (pair_at w k v b p homes i) c
      (pair_at w k v c r others j) ≡ true)

  -- two valid written maps, each of distinct keys, are equal if and only if each pair of either
  -- is the same as one of the other
  abbrev pub EqualHaveSamePairs : Type 0
  EqualHaveSamePairs = (b c : List ℕ) (p r : ℕ) (homes others : List ℕ) → IsWrittenApart b p homes
      → IsWrittenApart c r others
      → (map_equal b p c r ≡ true) ↔ (EachIsIn b p homes c r others × EachIsIn c r others b p homes)

-- a lookup of the key in the map finds a value that is the same as the one behind the key
abbrev pub finds_same : {K V H W : Type 0} {ks : Specs K} {vs : Specs V} {wt : Words W}
    → ArchivedHashMap K V H W ks vs wt → (List ℕ → ℕ → ℕ) → Comparison → Comparison → View K → Bool
finds_same {ks = ks} {vs = vs} {wt = wt} m key_hash same_key same_value key =
    pair_matches wt.word ks.spec vs.spec key_hash same_key same_value (bytes_of key) (pos_of key)
    (map_bytes m) (map_pos m)
