-- Bytes as two hexadecimal digits each.
use Rattle.std.specs.Prelude.{ℕ, ◌+◌, ◌*◌, ◌/◌, ◌%◌, ◌&&◌, nat_lt, if◌then◌else◌, List, [], ◌∷◌}
use Rattle.std.specs.Prelude.{None, Option, Some}
use Rattle.std.specs.Char.{digit_value, is_ascii_hexdigit}
use Rattle.std.specs.List.{flat_map}
use Rattle.std.specs.Option.{option_map}

-- the lower case digit of `n`, which is below 16
abbrev pub lower_digit : ℕ → ℕ
lower_digit n = if nat_lt n 10 then 48 + n else 87 + n

-- the two digits of a byte, the high one first
abbrev pub hex_of_byte : ℕ → List ℕ
hex_of_byte byte = lower_digit (byte / 16) ∷ lower_digit (byte % 16) ∷ []

-- the digits of all bytes, in order
abbrev pub hex_of : List ℕ → List ℕ
hex_of bytes = flat_map hex_of_byte bytes

-- the byte of two digits of either case, or `None` if one isn't a digit
unfoldable pub byte_of_digits : ℕ → ℕ → Option ℕ
byte_of_digits high low = if is_ascii_hexdigit high
    && is_ascii_hexdigit low then Some (digit_value high * 16 + digit_value low) else None

-- `byte` before the bytes `more`, or `None` if either is `None`
abbrev pub prepended : Option ℕ → Option (List ℕ) → Option (List ℕ)
prepended None more = None
prepended (Some byte) more = option_map (λ bytes. byte ∷ bytes) more

-- the bytes of pairs of digits, or `None` if the input isn't such pairs
abbrev pub bytes_of_digits : List ℕ → Option (List ℕ)
bytes_of_digits [] = Some []
bytes_of_digits (digit ∷ []) = None
bytes_of_digits (high ∷ low ∷ more) = prepended (byte_of_digits high low) (bytes_of_digits more)
