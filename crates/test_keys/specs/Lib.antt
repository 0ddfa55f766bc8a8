pub mod LowByte
pub mod Lemmas
