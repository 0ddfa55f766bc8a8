-- All definitions of the crate, which contracts and proofs import from here.
pub mod Bytes
pub mod ByteStrings
pub mod ByteStringWriting
pub mod ElementSpecs
pub mod Writing
pub mod Checking
pub mod Formats
pub mod Scalar
pub mod Numbers
pub mod Layout
pub mod Words
pub mod ClosureWrites
pub mod Entries
pub mod Elements
pub mod Views
pub mod Access
pub mod Pairs
pub mod Root
pub mod Members
pub mod Same
pub mod Lemmas
pub mod Empty
pub mod Parts
pub mod Text
pub mod TextWriting
pub mod Adapter
pub mod Limit
pub mod Sealing
pub mod Seals
pub mod SealedText
unfoldable pub use Bytes.{AgreeOn, number_at, signed_at}
pub use Bytes.{OccursAt}
unfoldable pub use ByteStrings.{ByteStringFails, ByteStringReads, IsByteStringOf, IsValidByteString}
unfoldable pub use ByteStrings.{byte_string_at, byte_string_begin, byte_string_length}
unfoldable pub use ByteStrings.{byte_string_of, byte_string_spec}
unfoldable pub use ByteStringWriting.{ByteStringImage, ByteStringNext, ByteStringOverflows}
unfoldable pub use ByteStringWriting.{ByteStringParts, HasWordLength, byte_string_format}
unfoldable pub use ByteStringWriting.{byte_string_words}
unfoldable pub use ElementSpecs.{IsAlign, ValidAt, any_bytes}
pub use ElementSpecs.{ElementSpec, IsElement, Viewable}
unfoldable pub use Writing.{Aligned, Aligns, AppendFails, Appended, AppendsPiece, CauseApplies}
unfoldable pub use Writing.{FailedOnce, Only, Reached, Within, end_of, padding, vec_output, zeros}
pub use Writing.{Appends, Extends, Faults, FaultsDuring, Output, Step, WriteFails, WriteFailure}
pub use Writing.{capacity, distance, failure, load_factor, long_text, mismatch, no_memory, piece}
pub use Writing.{refused}
unfoldable pub use Checking.{Fails, Passes}
unfoldable pub use Formats.{RepresentsAs, RepresentsLocally, SerializeFails, Serialized, Serializes}
unfoldable pub use Formats.{no_overflow, nothing_next, written_as}
pub use Formats.{Format, IsFormat}
unfoldable pub use Scalar.{AreProps, IsValidScalar, IsWord, ScalarFails, ScalarRepresents}
unfoldable pub use Scalar.{scalar_format, scalar_spec}
pub use Scalar.{Encodes, Encoding, IsScalar}
unfoldable pub use Numbers.{bool_encoding, char_encoding, signed, unsigned}
unfoldable pub use Layout.{narrow_limit, wide_limit}
pub use Layout.{IsIndexEncoding, IsLayout}
unfoldable pub use Words.{CountsReadBack, DistancesReadBack, WideDistancesFit}
unfoldable pub use ClosureWrites.{MayWrite}
pub use ClosureWrites.{Wrote}
unfoldable pub use Entries.{EntryFails, IsSmall, IsValidEntry, entry_spec, round_up, size_of_whole}
unfoldable pub use Entries.{value_offset, whole_size}
pub use Entries.{EntriesAgree}
unfoldable pub use Elements.{entry_specs}
unfoldable pub use Views.{AtView, IsAt, IsValidView, archive_of, bytes_of, pos_of, pos_of_found}
unfoldable pub use Access.{AccessFails, AccessWrites, IsNarrowArchive, IsWideArchive, Opens}
unfoldable pub use Access.{OpensNarrow, OpensWide}
pub use Access.{IsArchive, IsValidArchive}
unfoldable pub use Pairs.{Padded, PairImage, PairNext, PairOverflows, PairParts, PairRepresents}
unfoldable pub use Pairs.{pair_bytes, pair_format}
unfoldable pub use Root.{ArchiveOf, Archives, ArchivesNarrow, ArchivesWide, RootBytes, RootNext}
unfoldable pub use Root.{ToBytesFails, ValueStep, WriteRootFails, WritesRoot, WroteRoot, fresh}
unfoldable pub use Root.{root_format}
pub use Root.{RootFormat}
unfoldable pub use Members.{ElementMembers, WidthMembers}
unfoldable pub use Same.{SameValues}
pub use Same.{SameEncoding, SameFormat, SameSpec}
unfoldable pub use Empty.{unit_format, unit_represents, unit_spec}
unfoldable pub use Parts.{PartFails}
pub use Parts.{PartIn}
unfoldable pub use Text.{IsArchiveWord, IsTextOf, IsValidInline, IsValidOutOfLine, IsValidText}
unfoldable pub use Text.{OutOfLineFails, TextFails, TextReads, decode_length, fixed_bytes}
unfoldable pub use Text.{inline_text, is_out_of_line, out_of_line_begin, out_of_line_length}
unfoldable pub use Text.{out_of_line_text, text_at, text_of, text_size, text_spec}
unfoldable pub use TextWriting.{IsLong, IsShort, IsTooLong, TextImage, TextNext, TextOverflows}
unfoldable pub use TextWriting.{TextParts, inline_bytes, length_word, out_of_line_bytes}
unfoldable pub use TextWriting.{text_format, text_limit}
unfoldable pub use Adapter.{pair_of}
unfoldable pub use Limit.{Counts, InnerFaults, InnerTook, LimitWriteFails, bytes_left}
unfoldable pub use Limit.{failure_count, inner_writer, limited}
unfoldable pub use Sealing.{EntryStaysValid, IsCodeAt, Outside, StaysValid, value_at, value_pos}
unfoldable pub use Sealing.{with_bytes, with_value}
pub use Sealing.{ModifiesOnly}
unfoldable pub use Seals.{ArchiveAt, ArchiveStays, LendsFrontAndBack, LiesIn, SealAt, SealStays}
unfoldable pub use Seals.{archive_in, archive_ref, bytes_in, bytes_ref, pos_in, seal_pos}
pub use Seals.{BorrowsAt, IsSameBorrow}
unfoldable pub use SealedText.{IsInline, IsOutOfLine, IsUtf8IfInline, LacksInlineText, ReadsInline}
unfoldable pub use SealedText.{Uppercases, inline_at, with_uppercase}
