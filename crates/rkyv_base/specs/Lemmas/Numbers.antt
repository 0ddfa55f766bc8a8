-- Lemmas: the encodings of numbers, `bool` and `char`.
use Rattle.std.specs.Int.{Width}
use Rattle.std.proofs.Props.{props}
use Rattle.rkyv_base.specs.{AreProps, bool_encoding, char_encoding, signed, unsigned}

-- the codes of each encoding are given by a proposition
pub unsigned_codes : (w : Width) → AreProps (unsigned w)
unsigned_codes w n = hlevel props

pub signed_codes : (w : Width) → AreProps (signed w)
signed_codes w n = hlevel props

pub bool_codes : AreProps bool_encoding
bool_codes n = hlevel props

pub char_codes : AreProps char_encoding
char_codes n = hlevel props
