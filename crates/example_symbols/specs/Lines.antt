-- The symbols of lines, each a name and an address.
use Rattle.std.specs.Prelude.{ℕ, ◌&&◌, ◌==◌, Bool, if◌then◌else◌, List, nat_lt, length, take, drop}
use Rattle.std.specs.Prelude.{None, Option, Some, slice_index}
use Rattle.std.specs.Borrow.{Bor}
use Rattle.std.specs.Char.{is_ascii_hexdigit}
use Rattle.std.specs.List.{filter_map, list_all}
use Rattle.std.specs.Str.Lines.{lines}
use Rattle.std.specs.Str.Parse.{digits_value}

-- a symbol, with its name as bytes
abbrev pub with_name_bytes : Bor (List ℕ) × ℕ → List ℕ × ℕ
with_name_bytes symbol = (symbol.0.now, symbol.1)

-- `line` is 16 hexadecimal digits, a space, one byte, a space, and a name of at least one byte
abbrev pub has_symbol : List ℕ → Bool
has_symbol line = nat_lt 19 (length line)
    && ((slice_index line 16 == 32)
    && ((slice_index line 18 == 32) && list_all is_ascii_hexdigit (take 16 line)))

-- the name, and the address of the digits, or `None` if the line has no symbol
abbrev pub symbol_of : List ℕ → Option (List ℕ × ℕ)
symbol_of line =
    if has_symbol line then Some (drop 19 line, digits_value 16 (take 16 line)) else None

-- the symbols of the lines of `text`, in order; lines without a symbol are skipped
abbrev pub symbols_of : List ℕ → List (List ℕ × ℕ)
symbols_of text = filter_map symbol_of (lines text)
