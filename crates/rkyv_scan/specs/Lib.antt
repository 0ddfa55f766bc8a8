-- All definitions of the crate, which contracts and proofs import from here.
pub mod Groups
pub mod Hash
pub mod Laws
pub mod Lemmas
pub mod Masks
pub mod Paired
pub mod PairedMask
unfoldable pub use Groups.{AllBelow, bytewise_kind, flag_indices, generic_kind, indices_where}
unfoldable pub use Groups.{is_empty, is_equal_at, is_full, is_word_match_at, lanes_kind}
unfoldable pub use Groups.{mask_indices}
pub use Groups.{IsFirstFlag, IsKind, Kind}
unfoldable pub use Hash.{NumbersFit, all_bits, byte_words, call_words, four_bytes, fx_feed, fx_hash}
unfoldable pub use Hash.{fx_hasher, hash_of_calls, hash_word, hash_words, last_byte, low_halves}
unfoldable pub use Hash.{narrow_isize, number_from, rest_words, signed_word, two_bytes, whole_words}
unfoldable pub use Hash.{wide_words}
pub use Hash.{Bytes, Hasher, HasherCall, I128, I16, I32, I64, I8, Isize, SizeWords, U128, U16, U32}
pub use Hash.{U64, U8, Usize}
unfoldable pub use Laws.{CallsHashTheirWords, EightBytesAreOneWord, FixedCallsAgree}
unfoldable pub use Laws.{FixedCallsHashAlike, IsFixed, WritesJoin}
unfoldable pub use Masks.{group_bytes, group_lanes, group_word, mask_bits, mask_flags, mask_word}
unfoldable pub use Masks.{paired_lanes}
unfoldable pub use Paired.{MarksEqual, bits_after, chain, half_of, is_half_match_at, paired_kind}
unfoldable pub use PairedMask.{paired_indices}
