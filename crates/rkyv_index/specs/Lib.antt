-- All definitions of the crate, which contracts and proofs import from here.
pub mod Set
pub mod Map
pub mod Lemmas
pub mod Listed
unfoldable pub use Set.IndexSet.{IsMemberAt, IsMemberOf, index_of_set, index_set_equal}
unfoldable pub use Set.IndexSet.{index_set_spec, index_sets_equal, keys_of, set_bytes, set_pos}
unfoldable pub use Set.IndexSet.{unit_specs}
unfoldable pub use Set.SetFormat.{IndexSetRepresents, WrittenIndexSets, index_set_format}
unfoldable pub use Set.ListArchives.{MembersFoundAreListed, index_set_root}
pub use Set.ListArchives.{FindsInRootSet}
unfoldable pub use Set.ItemsAt.{ItemsAtAreListed}
unfoldable pub use Map.{AreUnderHash, CanCompareIndex, CanCompareIndices, CanCompareKeys}
unfoldable pub use Map.{CanCompareKeysIn, CanCompareKeysOf, ComparesIndexBy, ComparesKeysBy}
unfoldable pub use Map.{CountsBy, CountsKey, FindsBy, FindsFirstBy, FindsFirstIndex, FindsFirstKey}
unfoldable pub use Map.{FindsIndex, FindsKey, IsAccepted, IsFullKeyIn, IsFullResult, IsIndex}
unfoldable pub use Map.{IsIndexOf, IsKeyOf, IsPairAt, IsPairOf, IsStored, IsStoredAt, IsStoredBelow}
unfoldable pub use Map.{IsStoredIndex, IsValueAt, IsWritten, MatchesAt, ReadsUpTo, ReadsWithinBound}
unfoldable pub use Map.{fits_at, fits_in, full_index, full_key_index, index_archive, index_bytes}
unfoldable pub use Map.{index_cap, index_found, index_header, index_len, index_of, index_pos}
unfoldable pub use Map.{index_strides, index_view, key_at, key_pos, key_positions, pair_indices}
unfoldable pub use Map.{pair_positions, row, stored_index}
pub use Map.{FindsIndexIn, Index, IsEntryOf, IsKeyIn, IsValueOf}
unfoldable pub use Map.IndexLayout.{AreBelow, AreValidEntries, EntriesFail, FirstNotBelow}
unfoldable pub use Map.IndexLayout.{IndexFails, IndicesBelow, decode_entries, distance_pos}
unfoldable pub use Map.IndexLayout.{entries_pos, entry_at, index_spec, indices_of, pair_pos}
unfoldable pub use Map.IndexLayout.{stored_index_spec}
pub use Map.IndexLayout.{EntriesIn, IsValidIndex}
unfoldable pub use Map.IndexHeader.{IndexOverflows, WritesIndexHeader}
pub use Map.IndexHeader.{IndexResolver, IsIndexHeader}
unfoldable pub use Map.Row.{RowImages, RowNext, RowParts, RowPartsNext, SerializesRow, ValueStep}
unfoldable pub use Map.Row.{WritesRow, WroteRow, row_of}
pub use Map.Row.{Before, RowInput}
unfoldable pub use Map.IndexFormat.{CodesReadBack, IndexNext, IndexRepresents, IndexTable}
unfoldable pub use Map.IndexFormat.{WrittenIndexMaps, element, hashed_indices, index_format}
unfoldable pub use Map.IndexFormat.{indices, indices_from, key_hashes, row_format}
pub use Map.IndexFormat.{ArchivedAs, BeforeRow, BeforeZeros, IndexParts, IndexWrittenAt, IndicesAs}
pub use Map.IndexFormat.{KeyHashes, RowRepresents}
unfoldable pub use Map.ValueWrites.{KeptByWrites, SetsListed, ValueWritesKeepIndexMaps}
unfoldable pub use Map.ValueWrites.{WritesKeepLookups, WritesRepresent, index_kind, pair_at}
pub use Map.ValueWrites.{IndexKind, KeepsEntries, KeepsIndexMap}
unfoldable pub use Map.NestedWrites.{NestedWritesKeepIndexMaps, ValueWritesAreNested}
pub use Map.NestedWrites.{KeepsOuterIndexMap}
unfoldable pub use Map.BothHashers.{ComparedAlike, QueriedAlike, WrittenAlike, fx_index_found}
unfoldable pub use Map.SealedIndex.{IsFullSeal, IsFullSealAt, IsIndexSeal, IsPairPosIn, IsPairSeal}
unfoldable pub use Map.SealedIndex.{IsStoredIn, IsValueSeal, SealsPair, SealsValue, full_seal_index}
unfoldable pub use Map.SealedIndex.{index_at, index_in}
pub use Map.SealedIndex.{IsKeyAt, IsPairPos, SealsValueAt}
unfoldable pub use Map.Walking.{EndsBelow, WalksAll}
pub use Map.Walking.{IsWalk}
unfoldable pub use Map.Equality.{CountsAllStrides, CountsRepeated, CountsUpTo, ReturnsRepeated}
unfoldable pub use Map.Equality.{index_equal, index_map_equal, index_maps_equal, index_misplaced}
unfoldable pub use Map.Equality.{index_repeated, is_misplaced, is_repeated, keys_strides, own_found}
unfoldable pub use Map.Equality.{own_strides, same_at, same_keys}
unfoldable pub use Map.Complete.{FindsOneKey, FindsTheOne, NoneFits}
pub use Map.Complete.{FitsAlone}
unfoldable pub use Map.Lookups.{full_key_part, full_part, index_part, key_part, pair_part, part_at}
unfoldable pub use Map.Lookups.{value_part}
pub use Map.Lookups.{FoundByHas, FoundKeyHas, GetsBy, GetsKey, Part}
unfoldable pub use Map.InPlace.{FoundValueByHas, FoundValueHas, RepresentsIn, SetsFirst, SetsFound}
unfoldable pub use Map.InPlace.{SetsValue, UppercasesFirst, UppercasesFound, UppercasesListed}
unfoldable pub use Map.InPlace.{UppercasesText, WritesFoundBy, index_over, index_to_texts_over}
unfoldable pub use Map.InPlace.{index_to_texts_spec, value_pos_of}
unfoldable pub use Map.ListArchives.{FoundAreListed, index_root}
pub use Map.ListArchives.{FindsInRoot}
unfoldable pub use Map.ListedLookups.{AgreesOnKeys, IsFirst, LookupsFindListed}
pub use Map.ListedLookups.{FindsListed}
unfoldable pub use Map.MatchedKeys.{FindsMatchedKeys, HasDistinctKeys}
pub use Map.MatchedKeys.{FindsSameKey}
unfoldable pub use Map.ListedWalks.{SetWalksVisitInOrder, WalksVisitInOrder}
unfoldable pub use Map.PairsAt.{PairsAtAreListed}
unfoldable pub use Map.Reading.{AreItemsAt, AreItemsRead, ArePairsAt, ArePairsRead, HasItemsAt}
unfoldable pub use Map.Reading.{HasPairsAt, IsPairRead, ItemsReadBackAreListed}
unfoldable pub use Map.Reading.{PairsReadBackAreListed, ReadsItems, ReadsPairs}
unfoldable pub use Map.Reading.{items_deserialize_fails, items_trip, pair_deserialize_fails}
unfoldable pub use Map.Reading.{pairs_deserialize_fails, pairs_equal, pairs_trip, reads_as}
pub use Map.Reading.{ReadsAs}
unfoldable pub use Map.Writing.{NoOther, OwnOrSerializeFails, WritesEntries, WritesIndices, hashed}
unfoldable pub use Map.Writing.{hashed_row, pairs_of}
pub use Map.Writing.{HashedList, HashedRow}
unfoldable pub use Listed.{SameFormats, index_keys_format, index_map_format, ordered_items}
unfoldable pub use Listed.{ordered_items_format, ordered_pairs, ordered_pairs_format}
