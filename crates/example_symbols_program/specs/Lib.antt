-- All definitions of the crate, which contracts and proofs import from here.
pub mod ByAddress
pub mod Commands
pub mod Errors
pub mod Outcomes
unfoldable pub use ByAddress.{IndexFails, IndexResult, IsEntryOf, IsIndexOf, Listed, OpensIndex}
unfoldable pub use ByAddress.{PairsRepresentAt, Row, address_spec, index_header, name_spec}
unfoldable pub use ByAddress.{pairs_format, turned}
pub use ByAddress.{IsAscending}
unfoldable pub use Commands.{command_of, least_count}
unfoldable pub use Errors.{FileFails, IsFileError, IsInputError, IsValidationError, IsWriteError}
unfoldable pub use Errors.{RejectsTable}
unfoldable pub use Outcomes.{IsOutcomeFor, LooksUpAll, outcome_of, outcome_of_names}
