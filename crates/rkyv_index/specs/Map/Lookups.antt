-- The clauses of lookups on their results.
use Rattle.rkyv_base.specs.declared.element.HasSpec.{Ghosts as Specs}
use Rattle.rkyv_base.specs.declared.width.Word.{Ghosts as Words}
use Rattle.std.specs.Prelude.{◌≡◌, ℕ, Bool, IfSome, Option}
use Rattle.rkyv_base.specs.declared.view.View.{View}
use Rattle.rkyv_keys.specs.{KeyLookup, LookupHashes}
use Rattle.rkyv_index.specs.Map.Complete.{FindsOneKey}
use Rattle.rkyv_index.specs.Map.{FindsBy, FindsFirstBy, FindsFirstKey, FindsKey, Index, IsAccepted}
use Rattle.rkyv_index.specs.Map.{IsFullKeyIn, IsFullResult, IsIndex, IsKeyOf, IsPairOf, IsStored}
use Rattle.rkyv_index.specs.Map.{IsStoredIndex, IsValueOf, MatchesAt, full_index, full_key_index}
use Rattle.rkyv_index.specs.Map.{index_of}
use Rattle.rkyv_index.specs.declared.map.ArchivedIndexMap.{ArchivedIndexMap}

-- `P` is a property of the index that a lookup finds: in any map, in a written map,
-- and if no key is misplaced
pub record FoundKeyHas {K : Type 0} (m : Index K) (a : KeyLookup) (P : Option ℕ → Type 0) : Type 0
  where
    pub finds : FindsKey m a.hash a.fits P
    pub first : FindsFirstKey m a.key_hash a.fits P
    pub complete : FindsOneKey m a.key_hash a.same a.fits P

-- `P` is a property of the index that a lookup by a comparison finds, under the hash of a query:
-- of one whose key was accepted, in any map, and in a written map
pub record FoundByHas {K : Type 0} (m : Index K) (hashes : LookupHashes)
    (post : View K → Bool → Type 0) (P : Option ℕ → Type 0) : Type 0 where
  pub accepted : (index : Option ℕ) × P index × IfSome index (IsAccepted m post)
  pub finds : FindsBy m post hashes.hash P
  pub first : FindsFirstBy m post hashes.hash hashes.key_hash P

-- The part of a found pair that a lookup in `M` returns. `In m x`: `x` is of a pair of `m`
-- whose index is in the table, `At m result index`: the result is of the pair at the index,
-- or there is neither
pub record Part (M X : Type 0) : Type 1 where
  pub In : M → X → Type 0
  pub At : M → Option X → Option ℕ → Type 0

module _ {K V H W : Type 0} {ks : Specs K} {vs : Specs V} {wt : Words W} where
  -- the index
  abbrev pub index_part : Part (ArchivedIndexMap K V H W ks vs wt) ℕ
  index_part = record { In = IsStoredIndex; At = λ m. IsIndex }

  -- the index, the key and the value
  abbrev pub full_part : Part (ArchivedIndexMap K V H W ks vs wt) (ℕ × View K × View V)
  full_part = record { In = IsFullResult; At = λ m result index. full_index result ≡ index }

  -- the index and the key
  abbrev pub full_key_part : Part (ArchivedIndexMap K V H W ks vs wt) (ℕ × View K)
  full_key_part = record {
    In = IsFullKeyIn;
    At = λ m result index. full_key_index result ≡ index;
  }

  -- what `Related` describes, without the index
  abbrev pub part_at : {X : Type 0} → (ArchivedIndexMap K V H W ks vs wt → ℕ → X → Type 0)
      → Part (ArchivedIndexMap K V H W ks vs wt) X
  part_at Related = record {
    In = λ m x. (i : ℕ) × IsStored m i × Related m i x;
    At = λ m. MatchesAt (Related m);
  }

  -- the key and the value
  abbrev pub pair_part : Part (ArchivedIndexMap K V H W ks vs wt) (View K × View V)
  pair_part = part_at IsPairOf

  -- the key
  abbrev pub key_part : Part (ArchivedIndexMap K V H W ks vs wt) (View K)
  key_part = part_at IsKeyOf

  -- the value
  abbrev pub value_part : Part (ArchivedIndexMap K V H W ks vs wt) (View V)
  value_part = part_at IsValueOf

  module _ {X : Type 0} (part : Part (ArchivedIndexMap K V H W ks vs wt) X)
      (m : ArchivedIndexMap K V H W ks vs wt) where
    -- `result`: part of the pair that a lookup finds. `finds`: in any map, by the control bytes.
    -- `first`: in a written map, of the first key that fits. `complete`: of the only key that fits,
    -- if no key is misplaced
    pub record GetsKey (a : KeyLookup) (result : Option X) : Type 0 where
      pub walked : IfSome result (part.In m)
      pub finds : FindsKey (index_of m) a.hash a.fits (part.At m result)
      pub first : FindsFirstKey (index_of m) a.key_hash a.fits (part.At m result)
      pub complete : FindsOneKey (index_of m) a.key_hash a.same a.fits (part.At m result)

    -- `result`: part of the pair that a lookup by a comparison finds, under the hash of a query.
    -- `accepted`: the comparison accepted the key of the pair
    pub record GetsBy (hashes : LookupHashes) (post : View K → Bool → Type 0) (result : Option X) :
        Type 0 where
      pub walked : IfSome result (part.In m)
      pub accepted : (index : Option ℕ) × part.At m result index
          × IfSome index (IsAccepted (index_of m) post)
      pub finds : FindsBy (index_of m) post hashes.hash (part.At m result)
      pub first : FindsFirstBy (index_of m) post hashes.hash hashes.key_hash (part.At m result)
