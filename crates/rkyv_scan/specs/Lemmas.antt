-- Lemmas for the laws of traits and of their impls. A law can only import from specs/.
pub mod KindLaws
pub mod Ascending
pub mod Numbers
pub mod Paired
pub mod PairedMask
