-- Lookups in a map that return a seal of the value.
use Rattle.rkyv_base.specs.declared.element.HasSpec.{Ghosts as Specs}
use Rattle.rkyv_base.specs.declared.width.Word.{Ghosts as Words}
use Rattle.std.specs.Prelude.{◌≡◌, ℕ, List, Bool, true, IfSome, Option}
use Rattle.std.specs.Int.{Width}
use Rattle.std.specs.Option.{option_map}
use Rattle.rkyv_base.specs.{ElementSpec, IsValidView, SealAt, Viewable, archive_in, archive_ref}
use Rattle.rkyv_base.specs.{bytes_of, entry_spec, pos_in, pos_of, value_pos}
use Rattle.rkyv_base.specs.declared.seal.ArchiveSeal.{ArchiveSeal}
use Rattle.rkyv_base.specs.declared.seal.Seal.{Seal}
use Rattle.rkyv_base.specs.declared.view.View.{View}
use Rattle.rkyv_keys.specs.{LookupHashes}
use Rattle.rkyv_table.specs.{IsWalked, KeptByValueWrites, LendsPair, item_at, pos_of_seal}
use Rattle.rkyv_collections.specs.Map.{AreUnderHashAt, FindsFirstKeyAt, FindsKeyAt}
use Rattle.rkyv_collections.specs.Map.MapAt.{MapAt, map_at}
use Rattle.rkyv_collections.specs.Map.MapSpec.{IsKeyPosAt}
use Rattle.rkyv_collections.specs.Map.MapSpec.{map_spec}
use Rattle.rkyv_collections.specs.declared.map.HashMapOf.{HashMapOf}

-- the archive has a valid map at the seal
abbrev pub IsMapSeal : {K V H W : Type 0} → Width → ElementSpec → ElementSpec
    → ArchiveSeal (HashMapOf K V H W)
    → Type 0
IsMapSeal w k v a = Viewable (map_spec w k v) (archive_in a) (pos_in a)

-- the view is the view of a key of the map at `p`, in the same bytes
pub record IsKeyAt {K : Type 0} (w : Width) (k v : ElementSpec) (b : List ℕ) (p : ℕ) (key : View K)
    : Type 0 where
  pub bytes : bytes_of key ≡ b
  pub viewable : IsValidView k key
  pub key_pos : IsKeyPosAt w k v b p (pos_of key)

module _ {K : Type 0} (w : Width) (k v : ElementSpec) (b : List ℕ) (p : ℕ) where
  -- the comparison can be called with each key
  abbrev pub CanCompareKeysAt : (View K → Type 0) → Type 0
  CanCompareKeysAt pre = (key : View K) → IsKeyAt w k v b p key → pre key

  -- the comparison returns `accept` of the position of a key
  abbrev pub ComparesKeysByAt : (View K → Bool → Type 0) → (ℕ → Bool) → Type 0
  ComparesKeysByAt post accept = (key : View K) (r : Bool) → IsKeyAt w k v b p key → post key r
      → r ≡ accept (pos_of key)

  -- the comparison with `post` accepts the key at the position
  abbrev pub IsAcceptedKeyAt : (View K → Bool → Type 0) → ℕ → Type 0
  IsAcceptedKeyAt post q = (key : View K) × IsKeyAt w k v b p key × (pos_of key ≡ q)
      × post key true

  -- the property applies to the position that a lookup by a comparison finds,
  -- if the comparison depends only on the position of a key
  abbrev pub FindsByAt : (View K → Bool → Type 0) → ℕ → (Option ℕ → Type 0) → Type 0
  FindsByAt post hash P = (accept : ℕ → Bool) → ComparesKeysByAt post accept
      → FindsKeyAt w k v b p hash accept P

  -- the same for a written map, if each accepted key is under the hash
  abbrev pub FindsFirstByAt : (View K → Bool → Type 0) → ℕ → (List ℕ → ℕ → ℕ) → (Option ℕ → Type 0)
      → Type 0
  FindsFirstByAt post hash key_hash P = (accept : ℕ → Bool) → ComparesKeysByAt post accept
      → AreUnderHashAt w k v b p hash key_hash accept
      → FindsFirstKeyAt w k v b p key_hash accept P

-- the same for the map at a seal
module _ {K V H W : Type 0} (w : Width) (k v : ElementSpec) (a : ArchiveSeal
    (HashMapOf K V H W)) where
  -- the map has a key at `q`
  abbrev pub IsKeyPosIn : ℕ → Type 0
  IsKeyPosIn q = IsKeyPosAt w k v (archive_in a) (pos_in a) q

  -- the comparison can be called with each key
  abbrev pub CanCompareKeysIn : (View K → Type 0) → Type 0
  CanCompareKeysIn pre = CanCompareKeysAt w k v (archive_in a) (pos_in a) pre

-- the map of keys `ks` and values `vs` at the seal
abbrev pub map_sealed : {K V H W : Type 0} → Words W → Specs K → Specs V
    → ArchiveSeal (HashMapOf K V H W) → MapAt
map_sealed wt ks vs a = map_at wt ks vs (archive_in a) (pos_in a)

-- the property applies to the position of the key that a lookup by a comparison finds
-- under the hash of a query, or to `None`: in any map and in a written one.
-- `accepted`: the comparison accepted the key
pub record FoundByHasAt {K : Type 0} (m : MapAt) (hashes : LookupHashes)
    (post : View K → Bool → Type 0) (P : Option ℕ → Type 0) : Type 0 where
  pub accepted : (key_pos : Option ℕ) × P key_pos
      × IfSome key_pos (IsAcceptedKeyAt m.word m.key m.value m.bytes m.pos post)
  pub finds : FindsByAt m.word m.key m.value m.bytes m.pos post hashes.hash P
  pub first : FindsFirstByAt m.word m.key m.value m.bytes m.pos post hashes.hash hashes.key_hash P

-- the property applies to the position of the value of such a key, or to `None`
abbrev pub FoundValueByHasAt : {K : Type 0} → MapAt → LookupHashes → (View K → Bool → Type 0)
    → (Option ℕ → Type 0) → Type 0
FoundValueByHasAt m hashes post P =
    FoundByHasAt m hashes post (λ key_pos. P (option_map (value_pos m.key m.value) key_pos))

-- the value that such a lookup finds is written, if it finds one. `Writes`: relation of the bytes
-- before, the result, the bytes `c` afterwards and the found position
abbrev pub WritesFoundBy : {K X : Type 0} → MapAt → LookupHashes → (View K → Bool → Type 0)
    → (List ℕ → X → List ℕ → Option ℕ → Type 0) → X → List ℕ → Type 0
WritesFoundBy m hashes post Writes result c =
    FoundValueByHasAt m hashes post (Writes m.bytes result c)

-- `q`: position of the key in bucket `i` of the map at `p`, with the value behind it.
-- Each write of only the value that keeps it valid keeps the map: its header, its control bytes,
-- all keys and all other values
pub record IsPairPos (w : Width) (k v : ElementSpec) (b : List ℕ) (p i q : ℕ) : Type 0 where
  pub walked : IsWalked w b p i
  pub pos : q ≡ item_at w (entry_spec k v).size b p i
  pub key : Viewable k b q
  pub value : Viewable v b (value_pos k v q)
  pub kept : KeptByValueWrites w k v b p i

module _ {K V H W : Type 0} (w : Width) (k v : ElementSpec) (a : ArchiveSeal
    (HashMapOf K V H W)) where
  -- the view and the seal are of a pair of the map
  abbrev pub IsPairSeal : View K × Seal V → Type 0
  IsPairSeal pair = (i : ℕ)
      × LendsPair k v (archive_in a) (IsPairPos w k v (archive_in a) (pos_in a) i) pair

  -- `value`: seal of a value of the map, with the reference of the map's seal
  pub record IsValueSeal (value : Seal V) : Type 0 where
    pub bucket : ℕ
    pub key : ℕ
    pub pair : IsPairPos w k v (archive_in a) (pos_in a) bucket key
    pub at : SealAt value (archive_ref a) (value_pos k v key)

-- the position is the position of the found pair's key, or there is neither
abbrev pub IsPairSealAt : {K V : Type 0} → Option (View K × Seal V) → Option ℕ → Type 0
IsPairSealAt {K} {V} result key_pos =
    option_map (λ (pair : View K × Seal V). pos_of pair.0) result ≡ key_pos

-- the found value is behind the key at the position, or there is neither
abbrev pub IsValueSealAt : {V : Type 0} → ElementSpec → ElementSpec → Option (Seal V) → Option ℕ
    → Type 0
IsValueSealAt k v result key_pos = pos_of_seal result ≡ option_map (value_pos k v) key_pos
