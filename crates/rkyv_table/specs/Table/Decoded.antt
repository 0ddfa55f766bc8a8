-- A header of a table, decoded.
use Rattle.std.specs.Prelude.{◌≡◌, ℕ, ◌<◌, ◌^◌, List}
use Rattle.std.specs.Int.{Width}
use Rattle.rkyv_table.specs.Controls.Reciprocals.{divisor_of}
use Rattle.rkyv_table.specs.Table.Header.{cap_at, controls_pos, len_at}
use Rattle.rkyv_table.specs.declared.table.decoded.Decoded.{Decoded}

-- the number of items of a decoded header
abbrev pub decoded_len : Decoded → ℕ
decoded_len header = header.len

-- the number of buckets of a decoded header
abbrev pub decoded_cap : Decoded → ℕ
decoded_cap header = header.cap

-- the position of the first control byte in a decoded header
abbrev pub decoded_controls_pos : Decoded → ℕ
decoded_controls_pos header = header.controls_pos

-- the divisor of the reciprocal in a decoded header
abbrev pub decoded_divisor : Decoded → ℕ
decoded_divisor header = divisor_of header.reciprocal

-- `header` is the decoded header at position `p` of the bytes `b`; without buckets the position of
-- the controls and the divisor have no meaning
pub record IsDecoded (w : Width) (b : List ℕ) (p : ℕ) (header : Decoded) : Type 0 where
  pub len : decoded_len header ≡ len_at w b p
  pub cap : decoded_cap header ≡ cap_at w b p
  pub small : decoded_cap header < 2 ^ 64
  pub controls_pos : 0 < decoded_cap header → decoded_controls_pos header ≡ controls_pos w b p
  pub divisor : 0 < decoded_cap header → decoded_divisor header ≡ decoded_cap header
