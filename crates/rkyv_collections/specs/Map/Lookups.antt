-- The clauses of lookups on their results.
use Rattle.rkyv_base.specs.declared.element.HasSpec.{Ghosts as Specs}
use Rattle.rkyv_base.specs.declared.width.Word.{Ghosts as Words}
use Rattle.std.specs.Prelude.{◌≡◌, ℕ, ◌+◌, Bool, true, IfSome, MatchOption, None, Option}
use Rattle.std.specs.Prelude.{Some}
use Rattle.rkyv_base.specs.{ElementSpec, IsAt, IsValidView, archive_of, pos_of, value_offset}
use Rattle.rkyv_base.specs.declared.entry.Entry.{Entry}
use Rattle.rkyv_base.specs.declared.view.View.{View}
use Rattle.rkyv_keys.specs.{KeyLookup, LookupHashes}
use Rattle.rkyv_collections.specs.Map.{FindsBy, FindsFirstBy, FindsFirstKey, FindsKey, IsViewAt}
use Rattle.rkyv_collections.specs.Map.{IsEntryIn, IsKeyIn, IsPairAt, IsPairIn, IsValueAt}
use Rattle.rkyv_collections.specs.Map.{IsValueIn, map_bytes}
use Rattle.rkyv_collections.specs.Map.Misplaced.{FindsOneKey}
use Rattle.rkyv_collections.specs.declared.map.ArchivedHashMap.{ArchivedHashMap}

-- The part of a found pair that a lookup in `M` returns. `In m x`: `x` is of a pair of `m`,
-- `At result key_pos`: the result is for the key at `key_pos`, or there is neither
pub record Part (M X : Type 0) : Type 1 where
  pub In : M → X → Type 0
  pub At : Option X → Option ℕ → Type 0

module _ {K V H W : Type 0} {ks : Specs K} {vs : Specs V} {wt : Words W} where
  -- the property applies to the position that a lookup finds: in any map, in a written map,
  -- and if no key is misplaced
  pub record FoundKeyHas (m : ArchivedHashMap K V H W ks vs wt) (a : KeyLookup) (P : Option ℕ
      → Type 0) :
      Type 0 where
    pub finds : FindsKey m a.hash (a.fits (map_bytes m)) P
    pub first : FindsFirstKey m a.key_hash (a.fits (map_bytes m)) P
    pub complete : FindsOneKey m a.key_hash a.same (a.fits (map_bytes m)) P

  -- the comparison with `post` accepts the key at the position
  abbrev pub IsAcceptedKey : ArchivedHashMap K V H W ks vs wt → (View K → Bool → Type 0) → ℕ
      → Type 0
  IsAcceptedKey m post q = (key : View K) × IsKeyIn m key × (pos_of key ≡ q) × post key true

  -- the entry of the pair
  abbrev pub entry_part : Part (ArchivedHashMap K V H W ks vs wt) (View (Entry K V))
  entry_part = record { In = IsEntryIn; At = IsViewAt }

  -- the key and the value
  abbrev pub pair_part : Part (ArchivedHashMap K V H W ks vs wt) (View K × View V)
  pair_part = record { In = IsPairIn; At = IsPairAt }

  -- the key
  abbrev pub key_part : Part (ArchivedHashMap K V H W ks vs wt) (View K)
  key_part = record { In = IsKeyIn; At = IsViewAt }

  -- the value
  abbrev pub value_part : Part (ArchivedHashMap K V H W ks vs wt) (View V)
  value_part = record { In = IsValueIn; At = IsValueAt ks.spec vs.spec }

  module _ {X : Type 0} (part : Part (ArchivedHashMap K V H W ks vs wt) X)
      (m : ArchivedHashMap K V H W ks vs wt) where
    -- `result`: part of the pair that a lookup finds
    pub record GetsKey (a : KeyLookup) (result : Option X) : Type 0 where
      pub walked : IfSome result (part.In m)
      pub finds : FindsKey m a.hash (a.fits (map_bytes m)) (part.At result)
      pub first : FindsFirstKey m a.key_hash (a.fits (map_bytes m)) (part.At result)
      pub complete : FindsOneKey m a.key_hash a.same (a.fits (map_bytes m)) (part.At result)

    -- `result`: part of the pair that a lookup by a comparison finds, under the hash of a query.
    -- `accepted`: the comparison accepted the key of the pair
    pub record GetsBy (hashes : LookupHashes) (post : View K → Bool → Type 0) (result : Option X) :
        Type 0 where
      pub walked : IfSome result (part.In m)
      pub accepted : (key_pos : Option ℕ) × part.At result key_pos
          × IfSome key_pos (IsAcceptedKey m post)
      pub finds : FindsBy m post hashes.hash (part.At result)
      pub first : FindsFirstBy m post hashes.hash hashes.key_hash (part.At result)

module _ {K V : Type 0} (k v : ElementSpec) where
  -- the pair is the pair of the entry, or there is neither
  abbrev pub IsPairOfEntry : Option (View K × View V) → Option (View (Entry K V)) → Type 0
  IsPairOfEntry result found = MatchOption found (result ≡ None) (λ entry.
      (pair : View K × View V) × (result ≡ Some pair)
      × IsAt pair.0 (archive_of entry) (pos_of entry) × IsValidView k pair.0
      × IsAt pair.1 (archive_of entry) (pos_of entry + value_offset k v) × IsValidView v pair.1)

  -- the value is the value of the entry, or there is neither
  abbrev pub IsValueOfEntry : Option (View V) → Option (View (Entry K V)) → Type 0
  IsValueOfEntry result found = MatchOption found (result ≡ None) (λ entry.
      (value : View V) × (result ≡ Some value)
      × IsAt value (archive_of entry) (pos_of entry + value_offset k v) × IsValidView v value)
