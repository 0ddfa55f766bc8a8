pub mod Color
pub mod Spot
pub mod SpotKeys
pub mod Lemmas
