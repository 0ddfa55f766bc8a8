-- Queries that match a key of a written index map.
use Rattle.rkyv_base.specs.declared.element.HasSpec.{Ghosts as Specs}
use Rattle.rkyv_base.specs.declared.width.Word.{Ghosts as Words}
use Rattle.std.specs.Prelude.{◌≡◌, ℕ, ◌<◌, ◌≤◌, true, false, List, Option, Some}
use Rattle.rkyv_keys.specs.{Comparison, KeyLookup}
use Rattle.rkyv_table.specs.{len_at}
use Rattle.rkyv_index.specs.Map.{Index, IsWritten, fits_at, index_bytes, index_found, index_len}
use Rattle.rkyv_index.specs.Map.{index_of, index_pos, key_at}
use Rattle.rkyv_index.specs.declared.map.ArchivedIndexMap.{ArchivedIndexMap}

module _ {K : Type 0} (m : Index K) (same_key : Comparison) where
  -- no key is the same as an earlier one
  abbrev pub HasDistinctKeys : Type 0
  HasDistinctKeys = (i j : ℕ) → i < j → j < len_at m.word m.bytes m.pos
      → same_key m.bytes (key_at m i) m.bytes (key_at m j) ≡ false

  -- `found`: index of a key that is the same as the key at index `i`, and not after it. If the keys
  -- are distinct, it is `i`
  pub record FindsSameKey (i : ℕ) (found : Option ℕ) : Type 0 where
    pub index : ℕ
    pub not_after : index ≤ i
    pub at : found ≡ Some index
    pub same : same_key m.bytes (key_at m index) m.bytes (key_at m i) ≡ true
    pub alone : HasDistinctKeys → index ≡ i

-- in a written index map, each query finds a key if it matches one.
-- `wt`: word of the archive, `lookup_of`: the lookup of a query
abbrev pub FindsMatchedKeys : {K V W Q : Type 0} → (H : Type 0) → Words W → Specs K → Specs V
    → (Q → KeyLookup) → Type 0
FindsMatchedKeys {K} {V} {W} {Q} H wt ks vs lookup_of =
    (m : ArchivedIndexMap K V H W ks vs wt) (q : Q) (homes : List ℕ) (i : ℕ)
    → IsWritten (index_of m) (lookup_of q).key_hash homes → i < index_len m
    → fits_at (index_of m) (lookup_of q).fits i ≡ true
    → FindsSameKey (index_of m) (lookup_of q).same i
    (index_found wt.word (index_bytes m) (index_pos m) (lookup_of q).hash
    (fits_at (index_of m) (lookup_of q).fits))
