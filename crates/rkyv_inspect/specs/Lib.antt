-- All definitions of the crate, which contracts and proofs import from here.
pub mod Regions
pub mod Validation
unfoldable pub use Regions.{Covers, RegionsCover}
pub use Regions.{AddsUpTo, IsRegionList}
unfoldable pub use Validation.{IsFault, Validates, ValidatesContents, ValidatesKeys}
unfoldable pub use Validation.{ValidatesValues, is_key_type, is_value_type, item_spec, limit_of}
unfoldable pub use Validation.{root_spec, word_of}
