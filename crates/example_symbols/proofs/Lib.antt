pub mod Digits
pub mod Turns
