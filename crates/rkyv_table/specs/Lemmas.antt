-- Lemmas for the laws of traits and of their impls. A law can only import from specs/.
pub mod ValidItemLaws
pub mod TableLaws
pub mod ItemPositions
pub mod SameHeader
pub mod SameControls
pub mod SlotWalk
pub mod SlotSound
pub mod HeaderReads
pub mod TableSound
pub mod Buckets
pub mod Listed
pub mod Homes
