-- Groups of sixteen control bytes, whose halves are matched as groups of eight.
use Rattle.std.specs.Prelude.{Bool, List, bit_and, bit_or, drop, slice_index, suc, take, zero, ℕ}
use Rattle.std.specs.Prelude.{◌%◌, ◌*◌, ◌/◌, ◌<◌, ◌==◌, ◌^◌, ◌≡◌}
use Rattle.std.specs.Int.{bit_at}
use Rattle.rkyv_scan.specs.Groups.{Kind, is_word_match_at}

-- the eight control bytes of the half that has `index`
abbrev pub half_of : List ℕ → ℕ → List ℕ
half_of controls index = take 8 (drop (index / 8 * 8) controls)

-- `is_word_match_at` within the half that has `index`
abbrev pub is_half_match_at : List ℕ → ℕ → ℕ → Bool
is_half_match_at controls byte index = is_word_match_at (half_of controls index) byte (index % 8)

-- the kind with sixteen control bytes that marks as `is_half_match_at` says
abbrev pub paired_kind : Kind
paired_kind = record { width = 16; marks = is_half_match_at }

-- each mark moved one index up, without the last mark of each half
unfoldable pub bits_after : ℕ → ℕ
bits_after marks = bit_and (marks * 2 ^ 1 % 2 ^ 16) 65278

-- the marks after a number of steps from `equal`. Each step also marks an index
-- of `next` right above a mark
unfoldable pub chain : ℕ → ℕ → ℕ → ℕ
chain equal next zero = equal
chain equal next (suc n) = bit_or equal (bit_and (bits_after (chain equal next n)) next)

-- bit k is set if and only if control byte k is `byte`, for each k below sixteen
abbrev pub MarksEqual : List ℕ → ℕ → ℕ → Type 0
MarksEqual controls byte bits = (k : ℕ) → k < 16
    → (bit_at bits k == 1) ≡ (slice_index controls k == byte)
