-- All definitions of the crate, which contracts and proofs import from here.
pub mod Inspections
pub mod Outcomes
unfoldable pub use Inspections.{HasArchive, HasRegions}
unfoldable pub use Outcomes.{status_of}
