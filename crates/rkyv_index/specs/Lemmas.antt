-- Lemmas for the laws of traits and impls. A law imports only from specs/.
pub mod IndexLaws
pub mod IndexSpecs
pub mod EqualLaws
pub mod RowSound
pub mod IndexLocal
pub mod IndexSound
pub mod SetSound
pub mod HandlesEqual
