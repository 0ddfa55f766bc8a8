-- Maps with a value that is written among its parts, as a map that is a value.
use Rattle.std.specs.Prelude.{◌≡◌, ◌≢◌, ℕ, ◌+◌, ◌*◌, ◌<◌, ◌^◌, Bool, List, Some}
use Rattle.std.specs.Int.{Width, byte_len}
use Rattle.std.specs.Option.{option_map}
use Rattle.rkyv_base.specs.{AgreeOn, ElementSpec, Viewable, entry_spec, value_pos}
use Rattle.rkyv_table.specs.{HasSameControls, IsWalked, RestsOnParts, StaysAt, WritesAmongParts}
use Rattle.rkyv_table.specs.{WritesValue, item_found}
use Rattle.rkyv_collections.specs.Map.{FindsFirstKeyAt, MapWrittenAt}
use Rattle.rkyv_collections.specs.Map.MapSpec.{IsKeyPosAt, map_spec}
use Rattle.rkyv_collections.specs.Map.MapFormat.{MapRepresents}
use Rattle.rkyv_keys.specs.{NativeKeys, with_first}
use Rattle.rkyv_collections.specs.Map.ValueWrites.{entry_at}

module _ (w : Width) (k v : ElementSpec) where
  -- The map at `p` in `b`, after a write among the parts of the value in bucket `i`, is a map
  -- in `c`. Its header, its control bytes, the positions of its entries,
  -- all keys and all other values are unchanged. Each lookup that depends only on the key
  -- and its parts finds the same key. A written map is still one,
  -- and the write is among the parts of the map
  pub record KeepsOuterMap (key_hash : List ℕ → ℕ → ℕ) (b c : List ℕ) (p i : ℕ) : Type 0 where
    pub valid : Viewable (map_spec w k v) c p
    pub nested : WritesAmongParts (map_spec w k v) b c p
    pub header : AgreeOn b c p (p + 3 * byte_len w)
    pub controls : HasSameControls w b c p
    pub positions : (j : ℕ) → entry_at w k v c p j ≡ entry_at w k v b p j
    pub keys : (j : ℕ) → IsWalked w b p j → StaysAt k b c (entry_at w k v b p j)
    pub values : (j : ℕ) → IsWalked w b p j → j ≢ i
        → StaysAt v b c (value_pos k v (entry_at w k v b p j))
    pub hashes : (j : ℕ) → IsWalked w b p j
        → key_hash c (entry_at w k v b p j) ≡ key_hash b (entry_at w k v b p j)
    pub lookups : (hash : ℕ) (fits : List ℕ → ℕ → Bool) → hash < 2 ^ 64 → RestsOnParts k fits
        → item_found w (entry_spec k v).size c p hash (fits c)
        ≡ item_found w (entry_spec k v).size b p hash (fits b)
    pub written : (homes : List ℕ) → MapWrittenAt w (entry_spec k v) key_hash b p homes
        → MapWrittenAt w (entry_spec k v) key_hash c p homes

  -- a write of one value in place is a write among the parts of the map
  abbrev pub ValueWritesAreNested : Type 0
  ValueWritesAreNested =
      (b c : List ℕ) (p i : ℕ) → Viewable (map_spec w k v) b p → IsWalked w b p i
      → WritesValue k v b c (entry_at w k v b p i) → WritesAmongParts (map_spec w k v) b c p

  -- a write among the parts of the value of a key keeps the map
  abbrev pub NestedWritesKeepMaps : (List ℕ → ℕ → ℕ) → Type 0
  NestedWritesKeepMaps key_hash =
      (b c : List ℕ) (p q : ℕ) → Viewable (map_spec w k v) b p → (at : IsKeyPosAt w k v b p q)
      → WritesAmongParts v b c (value_pos k v q) → KeepsOuterMap key_hash b c p at.0

  -- after a write among the parts of the value of a key, each query `q` finds the same key.
  -- `hash q`: its hash
  abbrev pub NestedWritesKeepLookups : {Q : Type 0} → (Q → ℕ) → (Q → List ℕ → ℕ → Bool) → Type 0
  NestedWritesKeepLookups {Q} hash fits =
      (b c : List ℕ) (p pos : ℕ) → Viewable (map_spec w k v) b p → IsKeyPosAt w k v b p pos
      → WritesAmongParts v b c (value_pos k v pos) → (q : Q)
      → item_found w (entry_spec k v).size c p (hash q) (fits q c)
      ≡ item_found w (entry_spec k v).size b p (hash q) (fits q b)

  -- The map represents a list of pairs, and the value of the first pair with a key
  -- equal to `query` is written among its parts. The map then represents
  -- the list with the new value there. `keys`: native keys of the map, `value`: what represents
  -- a value
  abbrev pub NestedWritesRepresent : {A Q B : Type 0} → NativeKeys A Q → (List ℕ → ℕ → B → Type 0)
      → Type 0
  NestedWritesRepresent {A} {Q} {B} keys value =
      (b c : List ℕ) (p pos : ℕ) (factor : ℕ × ℕ) (pairs : List (A × B)) (query : Q) (new : B)
      → Viewable (map_spec w k v) b p
      → MapRepresents w k v keys.represents value keys.key_hash factor b p pairs
      → FindsFirstKeyAt w k v b p keys.key_hash (keys.fits query b)
      (λ key_pos. Some pos ≡ option_map (value_pos k v) key_pos)
      → WritesAmongParts v b c pos → value c pos new
      → MapRepresents w k v keys.represents value keys.key_hash factor c p
      (with_first (keys.equal query) new pairs)
