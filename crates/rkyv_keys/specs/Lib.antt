-- All definitions of the crate, which contracts and proofs import from here.
pub mod KeyLookups
pub mod Members
pub mod AtViews
pub mod Calls
pub mod Deserialize
pub mod Equality
pub mod FirstPairs
pub mod Fixed
pub mod Hashing
pub mod Keys
pub mod NativeFormats
pub mod Natives
pub mod OfEntries
pub mod OfScalars
pub mod OfTexts
pub mod OfByteStrings
pub mod OfUnits
pub mod OfValues
pub mod OfViews
pub mod QueryLaws
pub mod RoundTrips
pub mod Lemmas
unfoldable pub use KeyLookups.{IsFoundAt, archived_hash, archived_keys, lookup_hashes, lookup_of}
unfoldable pub use KeyLookups.{native_hash, query_of}
pub use KeyLookups.{ArchivedKeys, KeyLookup, LookupHashes}
unfoldable pub use Members.{HasherMembers, KeyMembers, QueryMembers}
unfoldable pub use AtViews.{at_view, at_views}
unfoldable pub use Calls.{after_calls, bool_call, fx_hash_at, hash_at, hash_of, text_calls}
unfoldable pub use Deserialize.{DeserializeErrors, DeserializeMembers, Deserializes, SameErrors}
unfoldable pub use Deserialize.{nothing_fails, text_fails}
unfoldable pub use Equality.{Comparison, DecidesEquality, EqualsUniquely, RepresentsUniquely}
unfoldable pub use Equality.{SameComparison}
pub use Equality.{IsEquivalence}
unfoldable pub use FirstPairs.{FindsByView, IsFoundPair, IsFoundValue, IsTextOk, first_pair}
unfoldable pub use FirstPairs.{first_value, found_scalars, found_texts, found_views}
unfoldable pub use FirstPairs.{list_after_uppercase, scalar_found, text_bytes, text_bytes_found}
unfoldable pub use FirstPairs.{uppercase_text, with_first, with_first_changed}
pub use FirstPairs.{FoundValues}
unfoldable pub use Fixed.{MakesFixedCalls}
unfoldable pub use Hashing.{HashesBy}
unfoldable pub use Keys.{FitsItsEqual}
pub use Keys.{IsKey, IsQuery}
unfoldable pub use NativeFormats.{fx_format, fx_key_format, native_format, native_key_format}
unfoldable pub use NativeFormats.{queried, queries_of}
pub use NativeFormats.{KeyFormat, PairFormat, Queried}
unfoldable pub use Natives.{native_keys, native_pairs}
pub use Natives.{NativeKeys, NativePairs}
unfoldable pub use OfEntries.{entry_calls, entry_deserialize_fails, entry_equals, entry_fits}
unfoldable pub use OfEntries.{entry_same, pair_calls}
unfoldable pub use OfScalars.{one_call, scalar_calls, scalar_fits, scalar_same}
unfoldable pub use OfTexts.{same_bytes, text_fits, text_key_calls, text_same}
unfoldable pub use OfByteStrings.{byte_string_calls, byte_string_fails, byte_string_fits}
unfoldable pub use OfByteStrings.{byte_string_key_calls, byte_string_same}
unfoldable pub use OfUnits.{no_calls, unit_at, unit_calls, unit_fits, unit_same, units_equal}
unfoldable pub use OfValues.{ValueRepresents, value_calls, value_fits, values_same}
unfoldable pub use OfViews.{FitsSameKeys, key_view, shown_view, view_calls, view_fits}
unfoldable pub use QueryLaws.{FitsByValue, HashLocal, HashesAlike, HashesAsWritten, RestsOnKeys}
unfoldable pub use RoundTrips.{HasArchive, RoundTripFails, round_trip}
pub use RoundTrips.{RoundTrip}
