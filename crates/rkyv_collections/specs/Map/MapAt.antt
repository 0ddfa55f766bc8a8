-- A map in bytes, and lookups in it.
use Rattle.rkyv_base.specs.declared.element.HasSpec.{Ghosts as Specs}
use Rattle.rkyv_base.specs.declared.width.Word.{Ghosts as Words}
use Rattle.std.specs.Prelude.{ℕ, Bool, List, Option}
use Rattle.std.specs.Int.{Width}
use Rattle.std.specs.Option.{option_map}
use Rattle.rkyv_scan.specs.{Hasher, HasherCall, hash_of_calls}
use Rattle.rkyv_base.specs.{ElementSpec, value_pos}
use Rattle.rkyv_keys.specs.{HasherMembers, KeyLookup, KeyMembers}
use Rattle.rkyv_collections.specs.Map.{FindsFirstKeyAt, FindsKeyAt}
use Rattle.rkyv_collections.specs.Map.Misplaced.{FindsOneKeyAt}

-- a map in bytes. `word`: width of the archive, `key` and `value`: specs of keys and values,
-- `bytes`: the archive, `pos`: position of the header
pub record MapAt : Type 1 where
  pub word : Width
  pub key : ElementSpec
  pub value : ElementSpec
  pub bytes : List ℕ
  pub pos : ℕ

-- the map of keys `ks` and values `vs` in an archive of the word `wt`, with its header at `pos`
abbrev pub map_at : {K V W : Type 0} → Words W → Specs K → Specs V → List ℕ → ℕ → MapAt
map_at wt ks vs bytes pos =
    record { word = wt.word; key = ks.spec; value = vs.spec; bytes = bytes; pos = pos }

-- the property applies to the position of the key that a lookup finds, or to `None`: in any map,
-- in a written map, and if no key is misplaced
pub record FoundKeyHasAt (m : MapAt) (a : KeyLookup) (P : Option ℕ → Type 0) : Type 0 where
  pub finds : FindsKeyAt m.word m.key m.value m.bytes m.pos a.hash (a.fits m.bytes) P
  pub first : FindsFirstKeyAt m.word m.key m.value m.bytes m.pos a.key_hash (a.fits m.bytes) P
  pub complete : FindsOneKeyAt m.word m.key m.value m.bytes m.pos a.key_hash a.same
      (a.fits m.bytes) P

-- the property applies to the position of the value that a lookup finds, or to `None`
abbrev pub FoundValueHasAt : MapAt → KeyLookup → (Option ℕ → Type 0) → Type 0
FoundValueHasAt m a P =
    FoundKeyHasAt m a (λ key_pos. P (option_map (value_pos m.key m.value) key_pos))

-- A lookup by the values that keys represent. `represents`: bytes at a position represent a value,
-- `key_hash`: hash of the key at a position, `accept_value`: accepted values
pub record ValueQuery (A : Type 0) : Type 1 where
  pub represents : List ℕ → ℕ → A → Type 0
  pub key_hash : List ℕ → ℕ → ℕ
  pub accept_value : A → Bool

-- the lookup of values that `accept_value` accepts, by the hasher and the hasher calls of keys
abbrev pub query_of_value : {State A : Type 0} → Hasher State → (List ℕ → ℕ → List HasherCall)
    → (List ℕ → ℕ → A → Type 0) → (A → Bool) → ValueQuery A
query_of_value hasher key_calls represents accept_value = record {
  represents = represents;
  key_hash = λ b q. hash_of_calls hasher (key_calls b q);
  accept_value = accept_value;
}

-- the same by a hasher and a type of keys
abbrev pub value_lookup_of : {State A : Type 0} → HasherMembers State → KeyMembers
    → (List ℕ → ℕ → A → Type 0) → (A → Bool) → ValueQuery A
value_lookup_of hasher key represents accept_value =
    query_of_value hasher.hasher key.key_calls represents accept_value
