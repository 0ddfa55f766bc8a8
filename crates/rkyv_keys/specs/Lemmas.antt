-- Lemmas for the laws of traits and of their impls. A law can import from specs/ alone.
pub mod FirstPairs
pub mod Fixed
pub mod OfEntries
pub mod OfScalars
pub mod OfTexts
pub mod OfByteStrings
pub mod OfUnits
pub mod OfValues
pub mod OfViews
pub mod QueryLaws
