-- The checksum Adler-32 of bytes.
use Rattle.std.specs.Prelude.{◌≡◌, ◌≢◌, ℕ, ◌+◌, ◌*◌, ◌%◌, ◌<◌, List, [], ◌∷◌, ◌++◌, length, sum}

-- each byte times the number of bytes from it to the end, added up
abbrev pub weighted_sum : List ℕ → ℕ
weighted_sum [] = 0
weighted_sum (x ∷ xs) = (length xs + 1) * x + weighted_sum xs

-- the low half: one and all bytes, added up, modulo 65521
abbrev pub adler32_low : List ℕ → ℕ
adler32_low b = (1 + sum b) % 65521

-- the high half: the low halves of all nonempty prefixes, added up, modulo 65521
abbrev pub adler32_high : List ℕ → ℕ
adler32_high b = (length b + weighted_sum b) % 65521

-- Adler-32 of the bytes `b`, as in zlib
abbrev pub adler32_of : List ℕ → ℕ
adler32_of b = adler32_high b * 65536 + adler32_low b

-- bytes that differ from `b` in one byte have a checksum other than `c`
abbrev pub DetectsChange : List ℕ → ℕ → Type 0
DetectsChange b c =
    (front back : List ℕ) (x y : ℕ) → b ≡ front ++ x ∷ back → y < 256 → y ≢ x
    → c ≢ adler32_of (front ++ y ∷ back)
