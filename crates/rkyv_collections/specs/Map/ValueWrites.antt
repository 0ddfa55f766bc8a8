-- Maps with a value that is written in place.
use Rattle.std.specs.Prelude.{◌≡◌, ℕ, ◌<◌, ◌^◌, List, Bool, Some, slice_get, slice_index, slice_set}
use Rattle.std.specs.Int.{Width}
use Rattle.rkyv_base.specs.{ElementSpec, Viewable, entry_spec, value_pos}
use Rattle.rkyv_table.specs.{IsWalked, KeepsTable, RestsOnKey, SameValue, WritesValue}
use Rattle.rkyv_table.specs.{home_positions, item_at, item_found}
use Rattle.rkyv_collections.specs.Map.{MapWrittenAt}
use Rattle.rkyv_collections.specs.Map.MapSpec.{map_spec}
use Rattle.rkyv_collections.specs.Map.MapFormat.{MapRepresents}

module _ (w : Width) (k v : ElementSpec) where
  -- the position of the entry in bucket `i`
  abbrev pub entry_at : List ℕ → ℕ → ℕ → ℕ
  entry_at b p i = item_at w (entry_spec k v).size b p i

  -- The map at `p` in `b`, after a write of the value in bucket `i`, is a map in `c`.
  -- Its header, its control bytes, all keys and all other values are unchanged.
  -- Each lookup that depends only on the key finds the same key, and a written map is still one
  pub record KeepsMap (key_hash : List ℕ → ℕ → ℕ) (b c : List ℕ) (p i : ℕ) : Type 0 where
    pub table : KeepsTable w (entry_spec k v) b c p i
    pub valid : Viewable (map_spec w k v) c p
    pub positions : (j : ℕ) → entry_at c p j ≡ entry_at b p j
    pub keys : (j : ℕ) → IsWalked w b p j → SameValue k b c (entry_at b p j)
    pub hashes : (j : ℕ) → IsWalked w b p j
        → key_hash c (entry_at b p j) ≡ key_hash b (entry_at b p j)
    pub lookups : (hash : ℕ) (fits : List ℕ → ℕ → Bool) → hash < 2 ^ 64 → RestsOnKey k fits
        → item_found w (entry_spec k v).size c p hash (fits c)
        ≡ item_found w (entry_spec k v).size b p hash (fits b)
    pub written : (homes : List ℕ) → MapWrittenAt w (entry_spec k v) key_hash b p homes
        → MapWrittenAt w (entry_spec k v) key_hash c p homes

  -- the map at `p` in `b`, after a write of the value at `pos`, is a map in `c`
  abbrev pub KeepsMapAt : (List ℕ → ℕ → ℕ) → List ℕ → List ℕ → ℕ → ℕ → Type 0
  KeepsMapAt key_hash b c p pos =
      (i : ℕ) × IsWalked w b p i × (pos ≡ value_pos k v (entry_at b p i))
      × KeepsMap key_hash b c p i

  -- a write of one value in place keeps the map
  abbrev pub ValueWritesKeepMaps : (List ℕ → ℕ → ℕ) → Type 0
  ValueWritesKeepMaps key_hash =
      (b c : List ℕ) (p i : ℕ) → Viewable (map_spec w k v) b p → IsWalked w b p i
      → WritesValue k v b c (entry_at b p i) → KeepsMap key_hash b c p i

  -- after a write of one value in place, a query with a hash of its own finds the same key
  abbrev pub ValueWritesKeepLookups : {Q : Type 0} → (Q → ℕ) → (Q → List ℕ → ℕ → Bool) → Type 0
  ValueWritesKeepLookups {Q} hash fits =
      (b c : List ℕ) (p i : ℕ) → Viewable (map_spec w k v) b p → IsWalked w b p i
      → WritesValue k v b c (entry_at b p i) → (q : Q)
      → item_found w (entry_spec k v).size c p (hash q) (fits q c)
      ≡ item_found w (entry_spec k v).size b p (hash q) (fits q b)

  -- a map that represents a list of pairs represents the list with the new value,
  -- after the write of that value
  abbrev pub ValuesWrittenRepresent : {A B : Type 0} → (List ℕ → ℕ → A → Type 0)
      → (List ℕ → ℕ → B → Type 0) → (List ℕ → ℕ → ℕ) → Type 0
  ValuesWrittenRepresent {A} {B} key value key_hash =
      (b c : List ℕ) (p n : ℕ) (factor : ℕ × ℕ) (pairs : List (A × B)) (pair : A × B) (new : B)
      → Viewable (map_spec w k v) b p
      → (represents : MapRepresents w k v key value key_hash factor b p pairs)
      → slice_get pairs n ≡ Some pair
      → WritesValue k v b c (slice_index
      (home_positions w (entry_spec k v).size b p represents.homes) n)
      → value c (value_pos k v (slice_index
      (home_positions w (entry_spec k v).size b p represents.homes) n)) new
      → MapRepresents w k v key value key_hash factor c p (slice_set pairs n (pair.0, new))
