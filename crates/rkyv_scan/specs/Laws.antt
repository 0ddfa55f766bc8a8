-- Laws of the hash, over only its definition. Each is for every rule for `usize`
-- and `isize`, and so for both hashers.
use Rattle.std.specs.Prelude.{◌≡◌, ℕ, ◌%◌, List, ◌++◌, length, All, flat_map}
use Rattle.std.specs.Int.{from_le_bytes, w64}
use Rattle.rkyv_scan.specs.Hash.{Bytes, HasherCall, Isize, SizeWords, U64, Usize, call_words}
use Rattle.rkyv_scan.specs.Hash.{fx_feed, fx_hash, hash_words}

-- the hash of a list of calls is the hash from 0 of all words that they feed
abbrev pub CallsHashTheirWords : Type 0
CallsHashTheirWords = (sizes : SizeWords) (calls : List HasherCall)
    → fx_hash sizes calls ≡ hash_words 0 (flat_map (call_words sizes) calls)

-- two writes hash as one of both joined, if the length of the first is a multiple of eight
abbrev pub WritesJoin : Type 0
WritesJoin = (sizes : SizeWords) (state : ℕ) (a b : List ℕ) → length a % 8 ≡ 0
    → fx_feed sizes (fx_feed sizes state (Bytes a)) (Bytes b) ≡ fx_feed sizes state (Bytes (a ++ b))

-- a write of eight bytes hashes as a `write_u64` of their little-endian number
abbrev pub EightBytesAreOneWord : Type 0
EightBytesAreOneWord = (sizes : SizeWords) (state : ℕ) (a : List ℕ) → length a ≡ 8
    → fx_feed sizes state (Bytes a) ≡ fx_feed sizes state (U64 (from_le_bytes w64 a))

-- the call is no `write_usize` and no `write_isize`
abbrev pub IsFixed : HasherCall → Type 0
IsFixed (Usize n) = ⊥
IsFixed (Isize z) = ⊥
IsFixed call = Unit {0}

-- a fixed call feeds the same words under any two rules
abbrev pub FixedCallsAgree : Type 0
FixedCallsAgree = (one other : SizeWords) (call : HasherCall) → IsFixed call
    → call_words one call ≡ call_words other call

-- a list of fixed calls has the same hash under any two rules
abbrev pub FixedCallsHashAlike : Type 0
FixedCallsHashAlike = (one other : SizeWords) (calls : List HasherCall) → All IsFixed calls
    → fx_hash one calls ≡ fx_hash other calls
