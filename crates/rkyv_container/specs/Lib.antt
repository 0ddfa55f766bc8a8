-- All definitions of the crate, which contracts and proofs import from here.
pub mod Codes
pub mod Checking
pub mod Checksum
pub mod Headers
pub mod Container
pub mod Texts
unfoldable pub use Codes.{IsItemCode, IsKindCode, IsWidthCode, item_code, kind_code, width_code}
unfoldable pub use Checking.{AllPass, FirstFails, followed_by}
pub use Checking.{Checks, check, done}
unfoldable pub use Checksum.{DetectsChange, adler32_high, adler32_low, adler32_of, weighted_sum}
unfoldable pub use Headers.{checksum_field, code_checks, contents_bytes, flag_checks, flags_of}
unfoldable pub use Headers.{header_bytes, header_checks, magic, reserved_checks, start_checks}
pub use Headers.{Fits, IsChecksumField, IsHeader}
unfoldable pub use Container.{ChecksumMatches, IsContainerOf, IsSplit, OpenAsFails, OpenFails}
unfoldable pub use Container.{archive_checks, contents_checks, header_of}
pub use Container.{IsContainer}
unfoldable pub use Texts.{kind_text, type_text, width_text}
