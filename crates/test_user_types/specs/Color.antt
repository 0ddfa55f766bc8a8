-- The encoding of colors: one byte below 3.
use Rattle.std.specs.Prelude.{ℕ, zero, suc, ◌<◌}
use Rattle.std.specs.Int.{w8}
use Rattle.rkyv_base.specs.{Encoding}
use Rattle.test_user_types.specs.declared.color.Color.{Color}
use Rattle.test_user_types.specs.declared.color.Color.TheVariants.{Blue, Green, Red}

-- the number of a color
abbrev pub code : Color → ℕ
code Red = 0
code Green = 1
code Blue = 2

-- the color of a number
abbrev pub color_of : ℕ → Color
color_of zero = Red
color_of (suc zero) = Green
color_of (suc (suc n)) = Blue

-- the encoding of a color in one byte, whose number is below 3
abbrev pub color_encoding : Encoding Color
color_encoding = record { word = w8; code = code; value = color_of; IsCode = λ n. n < 3 }
