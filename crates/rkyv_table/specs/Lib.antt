-- All definitions of the crate, which contracts and proofs import from here.
pub mod Controls
pub mod Table
pub mod Lemmas
unfoldable pub use Controls.Numbers.{IsLoadFactor, capacity, control_count, modulus, probe_capacity}
unfoldable pub use Controls.Numbers.{start, tag}
unfoldable pub use Controls.Capacity.{IsCapacity, capacity_write_error}
unfoldable pub use Controls.Probe.{buckets_at, probe_index, probed, strides, strides_from}
pub use Controls.Probe.{IsProbe}
unfoldable pub use Controls.Reciprocals.{divisor_of}
unfoldable pub use Controls.ControlBytes.{HasRoom, IsFullBucket, empty_index, fresh_controls}
unfoldable pub use Controls.ControlBytes.{is_empty_at, with_control}
unfoldable pub use Controls.Placing.{bucket_control, homes, is_free, walk, with_home}
unfoldable pub use Controls.Placing.{written_controls}
pub use Controls.Placing.{AreHomes, AreValidControls, AreWrittenControls, IsWrapped}
unfoldable pub use Controls.Finding.{ComparesByBucket, candidates, count_after, ends_at, found}
unfoldable pub use Controls.Finding.{lookup, marked, probe_length, stride_has_empty}
pub use Controls.Finding.{FindsBucket, Lookup, ReadsWithin}
unfoldable pub use Controls.StrideOutcome.{IsAcceptedBy, IsFullIfAccepted, IsFullInStride, IsMarked}
unfoldable pub use Controls.StrideOutcome.{IsStrideOutcome, SeesFirst}
unfoldable pub use Controls.Walking.{first_index, full_from, left}
pub use Controls.Walking.{IsWalk}
unfoldable pub use Controls.Wrapping.{IsWrappedAt}
pub use Controls.Wrapping.{FirstUnwrapped}
unfoldable pub use Controls.Laws.{AreHashes, BucketsAreProbed, FirstEmptyIsNextHome, FoundOnWritten}
unfoldable pub use Controls.Laws.{HomesAreFirstEmpty, HomesAreOneList, HomesExist, IsInStrides}
unfoldable pub use Controls.Laws.{IsUnderHash, MarkedAreWalked, SearchIsBounded, StridesCover}
unfoldable pub use Controls.Laws.{StridesReadARow, WalkedAreFull, WrittenAreOneList}
unfoldable pub use Controls.Laws.{WrittenAreValid}
pub use Controls.Laws.{IsCover}
unfoldable pub use Table.Header.{HeaderOverflows, cap_at, controls_pos, decode_begin, header_bytes}
unfoldable pub use Table.Header.{len_at}
pub use Table.Header.{IsHeader}
unfoldable pub use Table.ValidItems.{AreValid, AreValidAt, ChecksValue, FirstFails, within_lower}
pub use Table.ValidItems.{IsValidWithin}
unfoldable pub use Table.Layout.{AreValidItems, FailsInside, IsValidTable, TableAt, TableFails}
unfoldable pub use Table.Layout.{TableFailsAt, bucket_at, controls_at, part_size, table_spec}
pub use Table.Layout.{IsPart, ValidPart}
unfoldable pub use Table.Positions.{IsWalked, bucket_found, home_positions, item_at, item_positions}
unfoldable pub use Table.Positions.{pos_found, probe_length_at, table_controls}
pub use Table.Positions.{WrittenAt}
unfoldable pub use Table.Reading.{CanCompare, ComparesBy, CountsEnd, CountsWithin, FindsFirst}
unfoldable pub use Table.Reading.{FindsFound, IsAcceptedAt, IsFullIn, IsItem, IsItemPos, item_pos}
unfoldable pub use Table.Reading.{table_archive, table_bytes, table_header, table_pos, table_view}
pub use Table.Reading.{CountsStrides, FindsItem, FindsItemPos, IsItemIn}
unfoldable pub use Table.Decoded.{decoded_cap, decoded_controls_pos, decoded_divisor, decoded_len}
pub use Table.Decoded.{IsDecoded}
unfoldable pub use Table.Slots.{Above, BeforeBuckets, BucketNext, BucketOverflows, BucketStep}
unfoldable pub use Table.Slots.{Filled, FillsBucket, PartsNext, SlotImages, SlotParts, TableNext}
unfoldable pub use Table.Slots.{WritesBuckets, WritesParts, WritesSlots, WroteBuckets, bucket_with}
unfoldable pub use Table.Slots.{filled, filled_from, item_format, placed_slots, slots_with}
pub use Table.Slots.{Bucket, ItemFormat, PlacedSlots, ResolvedSlots, TableBytes}
unfoldable pub use Table.Chunks.{AppendsFilled, FitInChunks, MadeRoom, MakesRoom}
unfoldable pub use Table.PlacedItems.{HasEmptyBucket, hashes_of, items_of}
pub use Table.PlacedItems.{AreInSlots, ArePlaced}
unfoldable pub use Table.Counting.{Counted, CountedOn, CountsDiffer, YieldsBoth, YieldsOtherCount}
unfoldable pub use Table.Input.{PlacesInput, from_both, from_iter}
pub use Table.Input.{Input}
unfoldable pub use Table.TableFormat.{InBuckets, PairsNext, TableWritten, WritesHeader}
unfoldable pub use Table.TableFormat.{WrittenTablesRepresent, resolved_capacity, resolver_of}
unfoldable pub use Table.TableFormat.{table_format}
pub use Table.TableFormat.{BucketsRepresent, TableParts, TableRepresents, TableResolver}
unfoldable pub use Table.Serializing.{HasCapacity, OwnCause, PlacingFails, WriteItemsFails}
unfoldable pub use Table.Serializing.{WriteNonemptyFails, WritesItems, WritesNonempty, WritesTable}
unfoldable pub use Table.Serializing.{WroteItems, WroteNonempty, YieldsExactly, bucket_input}
unfoldable pub use Table.Serializing.{table_input}
pub use Table.Serializing.{BucketInput, InputPlaced, TableInput}
unfoldable pub use Table.Listed.{ListFails, listed, written_as_each}
unfoldable pub use Table.ListInputs.{items_left, pairs_left}
unfoldable pub use Table.ItemValues.{UnitStep, key_values, pair_values, with_units}
unfoldable pub use Table.IterWriting.{WritesInFormat, keys_in, pairs_in}
pub use Table.IterWriting.{ItemsToWrite}
unfoldable pub use Table.RawItems.{AllValid, CountsPositions, IsAhead, SameSteps, buckets_left}
unfoldable pub use Table.RawItems.{marked_left, pos_before, positions_left}
pub use Table.RawItems.{IsRawIter, ItemsLeft, YieldsPos}
unfoldable pub use Table.Hints.{HintsExactly}
unfoldable pub use Table.PairWalks.{YieldsKey, YieldsPair, YieldsValue}
pub use Table.PairWalks.{IsAtEnd, ViewsAt, YieldsFirstPos}
unfoldable pub use Table.WalkLaws.{WalkVisitsHomes}
pub use Table.WalkLaws.{VisitsHomes}
unfoldable pub use Table.SealedTable.{KeptByValueWrites, KeptByWrites, RestsOnKey}
pub use Table.SealedTable.{KeepsTable, SameLookups, SameValue, WritesValue}
unfoldable pub use Table.EachItem.{Computes, KeepsSeals, MaySealAny, OnceComputes, WritesEachOnce}
unfoldable pub use Table.EachItem.{WritesInTurn}
pub use Table.EachItem.{KeepsItems, KeepsSeal, WritesOnce, WritesValues}
unfoldable pub use Table.NestedWrites.{RestsOnParts}
pub use Table.NestedWrites.{IsValidBefore, KeepsArchive, StaysAt, WritesAmongParts}
unfoldable pub use Table.SealedLookup.{AcceptedAt, CanCompareAt, ComparesByAt, IsReadAt}
unfoldable pub use Table.SealedLookup.{IsTableSeal, SealsFirst, SealsFound, pos_of_seal}
pub use Table.SealedLookup.{IsItemSeal}
pub use Table.PairSeals.{LendsPair, LendsValue}
unfoldable pub use Table.Misplaced.{NoneAccepted, NoneMisplacedIsComplete, RepeatedAreMisplaced}
unfoldable pub use Table.Misplaced.{all_strides, is_found_at, is_misplaced, misplaced, own_strides}
unfoldable pub use Table.Misplaced.{repeated, repeats_earlier}
pub use Table.Misplaced.{AcceptsSame, AloneAccepted, IsSameness}
unfoldable pub use Table.ItemLookups.{FindsOnlyItem, HasItemAt, HasSameControls, IsOnlyAccepted}
unfoldable pub use Table.ItemLookups.{WalkVisits, full_buckets, item_found, item_strides}
unfoldable pub use Table.ItemLookups.{misplaced_items}
unfoldable pub use Table.WrittenTables.{ItemsWrittenRepresent, RepresentedWereWritten}
pub use Table.WrittenTables.{IsWrittenOf}
unfoldable pub use Table.FirstItem.{AgreesAt, AreUnder, IsFirstOf, LookupFindsFirst, first_of}
unfoldable pub use Table.FirstItem.{first_pos}
unfoldable pub use Table.Passing.{IsValidAround, WrittenTablesPass}
pub use Table.OneWay.{WritesOneWay}
unfoldable pub use Table.Bare.{AcceptedOf, CanCompareOf, ComparesByOf, ReadsExactly, WritesFound}
unfoldable pub use Table.Bare.{table_in}
pub use Table.Bare.{IsItemOf, LendsFound, LooksUp, TableIn}
unfoldable pub use Table.SealedItems.{CountsDown, FindsFirstLeft, IsItemOfTable, KeepsCursor}
unfoldable pub use Table.SealedItems.{LendsFirst, MaySeal, MaySealIn, MaySealNext, MayWriteAt}
unfoldable pub use Table.SealedItems.{MayWriteNext, WrittenBy, YieldsPosition, cursor_archive}
unfoldable pub use Table.SealedItems.{cursor_buckets_left, cursor_bytes, cursor_len}
pub use Table.SealedItems.{IsItemAt, IsSealIter, LendsArchive, SameArchive, SealedBy, StaysThere}
pub use Table.SealedItems.{StepsAndWrites, YieldsBucket}
unfoldable pub use Table.FoundWrites.{MayWriteIn, WritesIn}
unfoldable pub use Table.MisplacedIn.{ComparesAs, ComparesItems, CountsAllStrides, CountsMisplaced}
unfoldable pub use Table.MisplacedIn.{CountsUpTo, HashesAs, MayCompare, ReadsUpTo, ReturnsMisplaced}
unfoldable pub use Table.MisplacedIn.{apply_to_table, bucket_misplaced, bucket_strides, table_len}
unfoldable pub use Table.MisplacedIn.{table_misplaced, table_strides}
pub use Table.MisplacedIn.{CountsOwn, IsCutAt}
pub use Table.InBytes.{LooksUpInBytes}
