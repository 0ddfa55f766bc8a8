-- Definitions on index sets.
pub mod IndexSet
pub mod SetFormat
pub mod ListArchives
pub mod ItemsAt
