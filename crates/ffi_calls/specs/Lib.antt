-- All definitions of the crate, which contracts and proofs import from here.
pub mod Status
pub mod Archives
pub mod Lists
pub mod Walking
pub mod Containers
pub mod Explanation
pub mod IndexArchives
pub mod IndexLists
pub mod IndexItems
pub mod IndexInPlace
pub mod AnyValues
pub mod TypesOf
pub mod Iteration
pub mod Lookup
pub mod Collections
pub mod Building
pub mod Overwrite
pub mod Misplaced
pub mod Lemmas
unfoldable pub use Status.{container_status, verify_status, write_status}
unfoldable pub use Archives.{FindsValue, IsHeaderOf, IsMapArchive, KeepsHeader, Opens, Overwrites}
unfoldable pub use Archives.{by_flag, hash_by, limit_of, map_in, most_of, value_found, word_of}
unfoldable pub use Lists.{ArchiveFails, ArchivesRepresent, FindsFirstValue, IsArchiveOf, IsWritten}
unfoldable pub use Lists.{PairsRepresent, PosOfFirst, SetsFirstOf, SetsFirstPair, WalksVisitListed}
unfoldable pub use Lists.{archive_width, fx_hash_at, fx_pairs, header_spec, pairs_format}
unfoldable pub use Lists.{query_of_key, query_pairs, width_by}
pub use Lists.{ArchiveWidth}
unfoldable pub use Walking.{AreItemsIn, FindsNextItem, IsItemIn, IsNextBucket, StoresNextItems}
unfoldable pub use Walking.{bucket_pair_pos, buckets_from}
unfoldable pub use Containers.{AreUnknown, HasCodes, IsWrittenAs, MatchCodes, OpensAs}
unfoldable pub use Containers.{OpensContainer, OpensOwn, OpensOwnCodes, ReadsWidth}
unfoldable pub use Containers.{UpdatesContainer, WritesContainerHeader, codes_of}
unfoldable pub use Containers.{container_width_by}
unfoldable pub use Explanation.{ExplainsAs, ExplainsContainer, explain, explain_container_error}
unfoldable pub use Explanation.{explained, nearest}
pub use Explanation.{Explains}
unfoldable pub use IndexArchives.{FindsIndexed, IsIndexArchive, IsIndexItem, IsItemAtIndex}
unfoldable pub use IndexArchives.{found_index, index_at, index_in, index_map, index_root}
unfoldable pub use IndexArchives.{pair_count, pair_pos_at, value_pos_at}
pub use IndexArchives.{StoresItemsFrom}
unfoldable pub use IndexLists.{FindsFirstIndexed, HasValueAt, IndexRepresentsPairs, StoresListed}
unfoldable pub use IndexItems.{IndexFails, IndexesRepresent, IsIndexOf, index_header_spec}
unfoldable pub use IndexItems.{index_pairs_format, index_width, index_width_by}
pub use IndexItems.{IndexWidth}
unfoldable pub use IndexInPlace.{SetsFirstIndexed, value_found_in}
unfoldable pub use AnyValues.{Agrees, HasCode, HasNumber, IsAny, IsCodeNumber, IsNoCode, IsNoText}
unfoldable pub use AnyValues.{IsTextFor, Never, ReadsByteString, ReadsBytes, ReadsNumber, ReadsUnit}
unfoldable pub use AnyValues.{TextRepresents}
unfoldable pub use TypesOf.{NativeKeyMembers, NativeValueMembers, StoredKeyMembers}
unfoldable pub use TypesOf.{StoredValueMembers, byte_string_values, key_members, key_type_of}
unfoldable pub use TypesOf.{scalar_keys, scalar_values, text_keys, text_values, types_by, types_of}
unfoldable pub use TypesOf.{unit_values, value_members, value_type_of}
pub use TypesOf.{KeyTypes, Types, ValueTypes}
unfoldable pub use Iteration.{StoresItems, StoresItemsAt, StoresItemsIn}
pub use Iteration.{CanIterate, StoresFromIndex}
unfoldable pub use Lookup.{FindsKey, FindsShown, IsLookedUp, LooksUp, LooksUpIn, ReturnsIn}
unfoldable pub use Lookup.{SetLookupsFindListed}
pub use Lookup.{CanLookUp, FindsInIndex, FindsInMap, StoresLookups}
unfoldable pub use Collections.{CanDecode, CanValidate, DecodesTypes, ExplainsByCodes}
unfoldable pub use Collections.{ExplainsTypes, IsArchiveOfTypes, IsValidByCodes, OpensByCodes}
unfoldable pub use Collections.{collection_at, collection_by, collection_in, collection_of}
unfoldable pub use Collections.{collection_spec, index_flag, key_type, key_type_in, key_type_spec}
unfoldable pub use Collections.{root_in, root_spec, types_in, types_spec, value_type, value_type_in}
unfoldable pub use Collections.{value_type_spec, wide_flag}
pub use Collections.{IsHandleOf}
unfoldable pub use Building.{ArchiveOfItemsFails, ArchiveOfPairsFails, ArePairsOf, BuildsByCodes}
unfoldable pub use Building.{CanBuild, FirstUnfit, HasNoPair, HasPair, IsArchiveOfItems}
unfoldable pub use Building.{IsArchiveOfPairs, IsPairOf, Outputs, PairsFail, SetArchivesRepresent}
unfoldable pub use Building.{WritesArchive, WritesItems, taken_keys, taken_values, types_format}
unfoldable pub use Building.{types_natives}
unfoldable pub use Overwrite.{KeepsCollection, RepresentsBy, SetsIn, SetsKeyOf, SetsShown}
unfoldable pub use Overwrite.{value_found_by}
pub use Overwrite.{KeepsRoot, SetsKey}
unfoldable pub use Misplaced.{CountsIn, CountsMisplaced, CountsTypes, StoresMisplaced}
unfoldable pub use Misplaced.{index_with_keys, key_type_calls, key_type_same, misplaced_in}
unfoldable pub use Misplaced.{misplaced_of, strides_in, strides_of}
pub use Misplaced.{CanCount}
