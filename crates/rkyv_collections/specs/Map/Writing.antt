-- The results of writing a map or a set of the items of an iterator, and the header of a map.
use Rattle.std.specs.Prelude.{ℕ, List, Result}
use Rattle.std.specs.Int.{Width}
use Rattle.rkyv_base.specs.{Output, WidthMembers}
use Rattle.rkyv_base.specs.declared.errors.WriteError.{WriteError}
use Rattle.rkyv_keys.specs.{KeyFormat, PairFormat}
use Rattle.rkyv_table.specs.{ItemsToWrite, TableResolver, WritesHeader, WritesInFormat}
use Rattle.rkyv_collections.specs.Map.MapFormat.{map_format}
use Rattle.rkyv_collections.specs.Set.SetFormat.{set_format}

module _ {F : Type 0} (w : WidthMembers) where
  -- the pairs that the items have are written as a map, under the hashes of the keys
  -- and the load factor. The result is its resolver, or an error
  abbrev pub WritesMap : {X A B R Q : Type 0} → PairFormat A B R Q → ItemsToWrite X (A × B) → Output
      → Output → Result TableResolver (WriteError F) → Type 0
  WritesMap pair items o o' result =
      WritesInFormat w
      (map_format w.word pair.key_spec pair.value_spec pair.key pair.value pair.hash)
      items o o' result

  -- the same for keys, as a set
  abbrev pub WritesSet : {X A R : Type 0} → KeyFormat A R → ItemsToWrite X A → Output → Output
      → Result TableResolver (WriteError F) → Type 0
  WritesSet key items o o' result =
      WritesInFormat w (set_format w.word key.spec key.format key.hash) items o o' result

-- the bytes became the header at `p` of the resolved map. Or the distance doesn't fit,
-- and they are unchanged
abbrev pub ResolvesMap : {T E : Type 0} → Width → TableResolver → ℕ → List ℕ → List ℕ → Result T E
    → Type 0
ResolvesMap w r p before after result = WritesHeader w r p before after result
