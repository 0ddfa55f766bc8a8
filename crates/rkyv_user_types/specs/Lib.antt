-- All definitions of the crate, which contracts and proofs import from here.
pub mod Wrapped
pub mod Lemmas
unfoldable pub use Wrapped.{RepresentsAsPair, equals_as}
