-- The encodings of numbers, `bool` and `char`.
use Rattle.std.specs.Prelude.{◌==◌, ℕ, ℤ, ◌≤◌, ⊤, Bool, if◌then◌else◌}
use Rattle.std.specs.Char.{IsScalar}
use Rattle.std.specs.Int.{Width, cast_signed, cast_unsigned, w32, w8}
use Rattle.rkyv_base.specs.Scalar.{Encoding}

-- the encoding of unsigned numbers. Each is its own code
abbrev pub unsigned : Width → Encoding ℕ
unsigned w = record { word = w; code = λ n. n; value = λ n. n; IsCode = λ n. ⊤ }

-- the encoding of signed numbers, whose code is the unsigned number with the same bits
abbrev pub signed : Width → Encoding ℤ
signed w = record {
  word = w;
  code = λ z. cast_unsigned w z;
  value = λ n. cast_signed w n;
  IsCode = λ n. ⊤;
}

-- the encoding of `bool`: `false` is 0 and `true` is 1
abbrev pub bool_encoding : Encoding Bool
bool_encoding = record {
  word = w8;
  code = λ v. if v then 1 else 0;
  value = λ n. n == 1;
  IsCode = λ n. n ≤ 1;
}

-- the encoding of `char`, whose code is its Unicode scalar value
abbrev pub char_encoding : Encoding ℕ
char_encoding = record { word = w32; code = λ c. c; value = λ n. n; IsCode = IsScalar }
