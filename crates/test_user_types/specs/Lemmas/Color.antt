-- Lemmas: the encoding of colors.
use Rattle.std.proofs.Props.{props}
use Rattle.rkyv_base.specs.{AreProps}
use Rattle.test_user_types.specs.Color.{color_encoding}

-- that a number is a color's is a proposition
pub color_codes : AreProps color_encoding
color_codes n = hlevel props
