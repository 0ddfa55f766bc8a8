-- Lemmas for the laws of impls. A law can import from specs/ alone.
pub mod LowByte
