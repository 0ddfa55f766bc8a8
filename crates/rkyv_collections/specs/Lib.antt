-- All definitions of the crate, which contracts and proofs import from here.
pub mod StdMaps
pub mod Map
pub mod Lemmas
pub mod Set
pub mod Listed
pub mod Lists
unfoldable pub use StdMaps.StdMap.{AddsKey, ArePairsAt, InsertsPair, InsertsRead, ReadsStdMap}
unfoldable pub use StdMaps.StdMap.{StdMapRepresents, inner, inner_entries, inner_keys}
unfoldable pub use StdMaps.StdMap.{insert_pair_fails, of_entries, referent, std_map_fails}
unfoldable pub use StdMaps.StdMap.{with_inner}
pub use StdMaps.StdMap.{EntriesRepresent, ReadInOrderFails}
unfoldable pub use StdMaps.StdEquality.{EntriesEqual, FindsPair, FindsPairIn, StdMapEquals}
unfoldable pub use StdMaps.StdEquality.{StdMapEqualsIn}
unfoldable pub use StdMaps.StdSet.{InsertsKey, ReadsStdSet, StdSetEquals, StdSetEqualsIn}
unfoldable pub use StdMaps.StdSet.{StdSetRepresents, insert_key_fails, std_set_fails}
unfoldable pub use StdMaps.StdLookups.{FindsEntries, FindsFirstAccepted, FindsFirstAcceptedIn}
unfoldable pub use StdMaps.StdLookups.{FindsInWrittenMap, FindsInWrittenSet, FindsMembers}
unfoldable pub use StdMaps.StdLookups.{IsValueBehind}
unfoldable pub use StdMaps.RoundTrips.{ArchivesRoundTrip, WrittenMapsAreEqual, WrittenSetsAreEqual}
unfoldable pub use StdMaps.ListArchives.{IsListOfEntries, IsListOfKeys, IsListOfRelated}
unfoldable pub use StdMaps.ListArchives.{IsNarrowWritten, IsWideWritten, WrittenMapsAreLists}
unfoldable pub use StdMaps.ListArchives.{WrittenMapsListEntries, WrittenRootsAre}
unfoldable pub use StdMaps.ListArchives.{WrittenSetsAreLists, with_relation}
pub use StdMaps.ListArchives.{IsWrittenArchive}
unfoldable pub use Map.{AreUnderHash, AreUnderHashAt, CanCompareKeys, ComparesKeysBy, FindsBy}
unfoldable pub use Map.{FindsFirstBy, FindsFirstKey, FindsFirstKeyAt, FindsKey, FindsKeyAt}
unfoldable pub use Map.{IsEntryIn, IsKeyPos, IsMap, IsPairAt, IsValueAt, IsViewAt, MapWrittenAt}
unfoldable pub use Map.{key_pos_found, key_positions, map_archive, map_bytes, map_cap, map_header}
unfoldable pub use Map.{map_len, map_pos, map_view}
pub use Map.{IsKeyIn, IsPairIn, IsValueIn}
unfoldable pub use Map.MapSpec.{IsKeyPosAt, map_spec}
unfoldable pub use Map.Equality.{EachIsIn, EqualHaveSamePairs, finds_same, map_equal, pair_at}
unfoldable pub use Map.Equality.{pair_matches}
pub use Map.Equality.{IsWrittenApart}
unfoldable pub use Map.Misplaced.{CountsKeysUpTo, FindsOneKey, FindsOneKeyAt}
unfoldable pub use Map.Misplaced.{RepeatedKeysAreMisplaced, map_misplaced, map_strides}
unfoldable pub use Map.Misplaced.{misplaced_keys}
unfoldable pub use Map.MapAt.{FoundValueHasAt, map_at, query_of_value, value_lookup_of}
pub use Map.MapAt.{FoundKeyHasAt, MapAt, ValueQuery}
unfoldable pub use Map.Lookups.{IsAcceptedKey, IsPairOfEntry, IsValueOfEntry, entry_part, key_part}
unfoldable pub use Map.Lookups.{pair_part, value_part}
pub use Map.Lookups.{FoundKeyHas, GetsBy, GetsKey, Part}
unfoldable pub use Map.MapFormat.{WrittenMapsRepresent, keyed, map_format}
pub use Map.MapFormat.{MapRepresents}
unfoldable pub use Map.HashedPairs.{HashedStep}
unfoldable pub use Map.Writing.{ResolvesMap, WritesMap, WritesSet}
unfoldable pub use Map.SealedMap.{CanCompareKeysAt, CanCompareKeysIn, ComparesKeysByAt, FindsByAt}
unfoldable pub use Map.SealedMap.{FindsFirstByAt, FoundValueByHasAt, IsAcceptedKeyAt, IsKeyPosIn}
unfoldable pub use Map.SealedMap.{IsMapSeal, IsPairSeal, IsPairSealAt, IsValueSealAt, WritesFoundBy}
unfoldable pub use Map.SealedMap.{map_sealed}
pub use Map.SealedMap.{FoundByHasAt, IsKeyAt, IsPairPos, IsValueSeal}
unfoldable pub use Map.SealedPairs.{IsPairIter, IsPairOfMap, IsValueOfMap, KeepsPairs, KeepsValues}
unfoldable pub use Map.SealedPairs.{LendsFirstPair, LendsFirstValue, MayWritePair, MayWriteValue}
unfoldable pub use Map.SealedPairs.{YieldsKeyPos, YieldsValuePos, entries_in, entries_of}
pub use Map.SealedPairs.{HasAllPairs, IsDone, IsSplitPair, StepsAndWritesPair, StepsAndWritesValue}
pub use Map.SealedPairs.{YieldsPairAt}
unfoldable pub use Map.ValueWrites.{KeepsMapAt, ValueWritesKeepLookups, ValueWritesKeepMaps}
unfoldable pub use Map.ValueWrites.{ValuesWrittenRepresent, entry_at}
pub use Map.ValueWrites.{KeepsMap}
unfoldable pub use Map.ListedLookups.{AgreesOnKeys, IsPosOfPair, LookupsFindListed}
pub use Map.ListedLookups.{FindsListed}
unfoldable pub use Map.ListedWalks.{SetWalksVisitEach, WalksVisitEach, WalksVisitPairs}
unfoldable pub use Map.ListedWalks.{key_positions_at}
pub use Map.ListedWalks.{HasEachOnce}
unfoldable pub use Map.BothHashers.{ComparedAlike, QueriedAlike, WrittenAlike, fx_found}
unfoldable pub use Map.MatchedKeys.{FindsMatchedKeys, HasDistinctKeys}
pub use Map.MatchedKeys.{FindsSameKey}
unfoldable pub use Map.Walking.{WalksAll}
unfoldable pub use Map.InPlace.{SetsFirst, SetsFound, SetsValue}
unfoldable pub use Map.ListArchives.{FoundAreListed, IsTextMapOf, OpensTextMap, SetsValueOfText}
unfoldable pub use Map.ListArchives.{TextMapFails, TextMapRepresents, TextMapResult, TextPairs}
unfoldable pub use Map.ListArchives.{first_of_text, map_root, text_found, text_key_found}
unfoldable pub use Map.ListArchives.{text_map_format, text_map_spec}
pub use Map.ListArchives.{IsTextMap}
unfoldable pub use Map.NestedWrites.{NestedWritesKeepLookups, NestedWritesKeepMaps}
unfoldable pub use Map.NestedWrites.{NestedWritesRepresent, ValueWritesAreNested}
pub use Map.NestedWrites.{KeepsOuterMap}
unfoldable pub use Map.InPlaceText.{UppercasesFirst, UppercasesFound, UppercasesText}
unfoldable pub use Map.InPlaceText.{map_to_texts_at, map_to_texts_spec}
unfoldable pub use Map.EachValue.{ComputesNatives, EachWrittenRepresents, WritesEachValue}
unfoldable pub use Map.EachValue.{value_positions_at}
pub use Map.EachValue.{KeepsKeys}
unfoldable pub use Set.{CountsMembersUpTo, FoundMemberHas, GetsMember, IsSetAt, member_positions}
unfoldable pub use Set.{set_archive, set_bytes, set_cap, set_equal, set_len, set_misplaced, set_pos}
unfoldable pub use Set.{set_spec, set_view}
unfoldable pub use Set.ListArchives.{MembersFoundAreListed, SetLookupsFindListed, set_root}
unfoldable pub use Set.SetFormat.{SetRepresents, WrittenSetsRepresent, set_format}
unfoldable pub use Set.Walking.{WalksAllKeys}
unfoldable pub use Listed.{SerializesEntries, map_list, map_list_format, pairs_under, set_list}
unfoldable pub use Listed.{set_list_format, std_map_format}
unfoldable pub use Lists.{items_load_factor, listed_items, listed_pairs, pairs_load_factor}
unfoldable pub use Lists.{same_load_factor}
