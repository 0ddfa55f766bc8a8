pub mod Checking
pub mod HeaderBytes
pub mod HeaderChecks
pub mod Summing
pub mod Opening
pub mod Same
pub mod Variants
