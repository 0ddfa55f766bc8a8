-- Lemmas for the laws of impls. A law can import from specs/ alone.
pub mod Color
pub mod Spot
pub mod SpotKeys
