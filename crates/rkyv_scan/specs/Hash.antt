-- The calls of a hasher, the words that they feed, and the hash of a list of calls.
use Rattle.std.specs.Prelude.{List, [], bit_xor, drop, fold, if◌then◌else◌, length, map, ℕ, ℤ, ◌%◌}
use Rattle.std.specs.Prelude.{◌*◌, ◌++◌, ◌/◌, ◌<◌, ◌==◌, ◌^◌, ◌∷◌}
use Rattle.std.specs.List.{range_with_len}
use Rattle.std.specs.Int.{Width, cast_signed, cast_unsigned, from_le_bytes, rotate_left, w128, w16}
use Rattle.std.specs.Int.{w32, w64, w8}

-- one call of a hasher, with its argument
pub data HasherCall : Type 0 where
  Bytes : List ℕ → HasherCall
  U8 U16 U32 U64 U128 Usize : ℕ → HasherCall
  I8 I16 I32 I64 I128 Isize : ℤ → HasherCall

-- a hasher over its states. `initial`: initial state, `feed`: state after one call,
-- `finish`: hash of a state
pub record Hasher (State : Type 0) : Type 0 where
  pub initial : State
  pub feed : State → HasherCall → State
  pub finish : State → ℕ

-- the hash of a list of calls, fed in order from the initial state on
abbrev pub hash_of_calls : {State : Type 0} → Hasher State → List HasherCall → ℕ
hash_of_calls hasher calls = hasher.finish (fold hasher.feed hasher.initial calls)

-- the hash of any list of calls is below 2^64
abbrev pub NumbersFit : {State : Type 0} → Hasher State → Type 0
NumbersFit hasher = (calls : List HasherCall) → hash_of_calls hasher calls < 2 ^ 64

-- the little-endian number of width `w` in `bytes` from position `i` on
abbrev pub number_from : Width → List ℕ → ℕ → ℕ
number_from w bytes i = from_le_bytes w (drop i bytes)

-- the first `n` whole words of eight bytes
abbrev pub whole_words : List ℕ → ℕ → List ℕ
whole_words bytes n = map (λ k. number_from w64 bytes (8 * k)) (range_with_len 0 n)

-- the word of four bytes after the whole words, if the length has the bit 4
abbrev pub four_bytes : List ℕ → List ℕ
four_bytes bytes =
    let n = length bytes in
    if n / 4 % 2 == 1 then number_from w32 bytes (n / 8 * 8) ∷ [] else []

-- the word of two bytes after those, if the length has the bit 2
abbrev pub two_bytes : List ℕ → List ℕ
two_bytes bytes =
    let n = length bytes in
    if n / 2 % 2 == 1 then number_from w16 bytes (n / 4 * 4) ∷ [] else []

-- the word of the last byte, if the length is odd
abbrev pub last_byte : List ℕ → List ℕ
last_byte bytes =
    let n = length bytes in
    if n % 2 == 1 then number_from w8 bytes (n / 2 * 2) ∷ [] else []

-- the words after the last whole one
unfoldable pub rest_words : List ℕ → List ℕ
rest_words bytes = four_bytes bytes ++ two_bytes bytes ++ last_byte bytes

-- the words that `write` feeds
unfoldable pub byte_words : List ℕ → List ℕ
byte_words bytes = whole_words bytes (length bytes / 8) ++ rest_words bytes

-- `z` as the one unsigned word of width `w` with the same bits
abbrev pub signed_word : Width → ℤ → List ℕ
signed_word w z = cast_unsigned w z ∷ []

-- the low 64 bits, and then the others
abbrev pub wide_words : ℕ → List ℕ
wide_words n = n % 2 ^ 64 ∷ n / 2 ^ 64 ∷ []

-- a rule for the one word of a `usize`, and the one word of an `isize`
pub record SizeWords : Type 0 where
  pub usize_word : ℕ → ℕ
  pub isize_word : ℤ → ℕ

-- the low 32 bits as a signed number, sign-extended to 64
abbrev pub narrow_isize : ℤ → ℕ
narrow_isize z = cast_unsigned w64 (cast_signed w32 (cast_unsigned w64 z % 2 ^ 32))

-- the rule that takes the low 32 bits
abbrev pub low_halves : SizeWords
low_halves = record { usize_word = λ n. n % 2 ^ 32; isize_word = narrow_isize }

-- the rule that takes all 64 bits
abbrev pub all_bits : SizeWords
all_bits = record { usize_word = λ n. n; isize_word = cast_unsigned w64 }

-- the words that one call feeds under the rule `sizes`
abbrev pub call_words : SizeWords → HasherCall → List ℕ
call_words sizes (Bytes bytes) = byte_words bytes
call_words sizes (U8 n) = n ∷ []
call_words sizes (U16 n) = n ∷ []
call_words sizes (U32 n) = n ∷ []
call_words sizes (U64 n) = n ∷ []
call_words sizes (U128 n) = wide_words n
call_words sizes (Usize n) = sizes.usize_word n ∷ []
call_words sizes (I8 z) = signed_word w8 z
call_words sizes (I16 z) = signed_word w16 z
call_words sizes (I32 z) = signed_word w32 z
call_words sizes (I64 z) = signed_word w64 z
call_words sizes (I128 z) = wide_words (cast_unsigned w128 z)
call_words sizes (Isize z) = sizes.isize_word z ∷ []

-- the state after one word, from `state` on
unfoldable pub hash_word : ℕ → ℕ → ℕ
hash_word state word = (bit_xor (rotate_left w64 state 5) word * 0x517c_c1b7_2722_0a95) % 2 ^ 64

-- the state after a list of words, from `state` on
abbrev pub hash_words : ℕ → List ℕ → ℕ
hash_words state words = fold hash_word state words

-- the state after one call, from `state` on
abbrev pub fx_feed : SizeWords → ℕ → HasherCall → ℕ
fx_feed sizes state call = hash_words state (call_words sizes call)

-- the hasher of the rule `sizes`. Its state is at first 0, and is its own hash
abbrev pub fx_hasher : SizeWords → Hasher ℕ
fx_hasher sizes = record { initial = 0; feed = fx_feed sizes; finish = λ state. state }

-- the hash of a list of calls by the hasher of the rule `sizes`
abbrev pub fx_hash : SizeWords → List HasherCall → ℕ
fx_hash sizes calls = hash_of_calls (fx_hasher sizes) calls
