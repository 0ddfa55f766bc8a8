-- All definitions of the crate, which contracts and proofs import from here.
pub mod Report
pub mod Listing
unfoldable pub use Report.{CanCompareItems, LookOverFails, LooksOver, LooksUpIn, ReadsExactlyIn}
unfoldable pub use Report.{ReadsWithinBound, per_sixteen}
pub use Report.{ReportsTable}
unfoldable pub use Listing.{AppendsList, CanCompareAny, FindsFirstItem, ItemsAreReplaced, ListNext}
unfoldable pub use Listing.{ListStepFails, ListsAreFound, ListsAreValid, LooksOverList}
unfoldable pub use Listing.{LookupsFindListed, WriteAndFindFails, WriteListFails, WritesAndFinds}
unfoldable pub use Listing.{WritesList, WroteList, encoding, list_format, list_of, pairs_of}
unfoldable pub use Listing.{positions_of, table_of, table_with}
pub use Listing.{Encoding, HasListBytes, HoldsList, IsWrittenList, ListBytes, ListInput}
pub use Listing.{ReportsList, VisitsItems}
