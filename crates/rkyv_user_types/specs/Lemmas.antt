-- Lemmas for the laws of traits and of their impls. A law can import from specs/ alone.
pub mod Wrapped
pub mod Variants
