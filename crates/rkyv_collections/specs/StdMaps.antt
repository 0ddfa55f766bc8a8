-- Definitions on std maps and sets: represented, compared, looked up, read back.
pub mod StdMap
pub mod StdEquality
pub mod StdSet
pub mod StdLookups
pub mod RoundTrips
pub mod ListArchives
