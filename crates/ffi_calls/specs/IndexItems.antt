-- The archives of lists of pairs as index maps.
use Rattle.std.specs.Prelude.{ℕ, Bool, List}
use Rattle.rkyv_base.specs.{ArchiveOf, ElementSpec, Encoding, Format, IsValidArchive, ToBytesFails}
use Rattle.rkyv_base.specs.{WidthMembers, scalar_spec, unsigned}
use Rattle.rkyv_base.specs.declared.errors.WriteError.{WriteError}
use Rattle.rkyv_keys.specs.{NativePairs, PairFormat}
use Rattle.rkyv_table.specs.{listed}
use Rattle.rkyv_index.specs.{IndexRepresents, IndexResolver, IndicesAs, index_map_format, indices}
use Rattle.ffi_calls.specs.Archives.{word_of}
use Rattle.ffi_calls.specs.IndexArchives.{index_in, index_map}
use Rattle.ffi_calls.specs.IndexLists.{IndexRepresentsPairs}
use Rattle.ffi_calls.specs.Lists.{ArchiveWidth, archive_width, width_by}

-- the width of an archive of an index map. `indices`: how its indices are written
pub record IndexWidth (P : Type 0) : Type 1 where
  pub archive : ArchiveWidth
  pub indices : IndicesAs P

-- the width with the members of a `Width`, whose indices have this spec and encoding
abbrev pub index_width : {P : Type 0} → WidthMembers → ElementSpec → Encoding P → IndexWidth P
index_width w spec encoding =
    record { archive = archive_width w; indices = indices spec encoding }

module _ {P A N R Q : Type 0} (width : IndexWidth P) (format : PairFormat A N R Q) where
  -- the format of a list of pairs as an index map under the load factor 7 / 8
  abbrev pub index_pairs_format : Format (List (A × N)) IndexResolver
  index_pairs_format =
      listed width.archive.most (7, 8)
      (index_map_format width.archive.word width.indices format (7, 8))

  -- the spec of the header of the index map
  abbrev pub index_header_spec : ElementSpec
  index_header_spec = index_map width.archive.word format.key_spec format.value_spec

  -- `b` is the archive of the pairs as an index map, in this order.
  -- It is valid, represents them, and has no other bytes.
  unfoldable pub IsIndexOf : NativePairs A N → List (A × N) → List ℕ → Type 0
  IsIndexOf native pairs b =
      ArchiveOf width.archive.limit index_header_spec
      (IndexRepresents width.archive.word format.key_spec format.value_spec native.key
      native.value native.key_hash (7, 8)) index_pairs_format pairs b

  -- the write of the pairs fails with `error`
  unfoldable pub IndexFails : {F : Type 0} → List (A × N) → WriteError F → Type 0
  IndexFails pairs error =
      ToBytesFails width.archive.limit index_header_spec index_pairs_format pairs error

  -- an archive of a list as an index map is valid, and represents the list
  abbrev pub IndexesRepresent : NativePairs A N → Type 0
  IndexesRepresent native =
      (pairs : List (A × N)) (b : List ℕ) → IsIndexOf native pairs b
      → IsValidArchive width.archive.limit index_header_spec b
      × IndexRepresentsPairs
      (index_in width.archive.word format.key_spec format.value_spec b) native (7, 8)
      pairs

-- the width of an archive of an index map, narrow or wide
abbrev pub index_width_by : Bool → IndexWidth ℕ
index_width_by wide = let e = unsigned (word_of wide) in
    record { archive = width_by wide; indices = indices (scalar_spec e) e }
