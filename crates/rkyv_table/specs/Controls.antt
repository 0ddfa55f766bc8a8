-- Definitions on only control bytes, indices and buckets.
pub mod Numbers
pub mod Capacity
pub mod Probe
pub mod Reciprocals
pub mod ControlBytes
pub mod Placing
pub mod Finding
pub mod StrideOutcome
pub mod Walking
pub mod Wrapping
pub mod Laws
