-- The sizes that the width of an archive fixes.
use Rattle.std.specs.Prelude.{◌≡◌, ℕ, ◌*◌, ◌^◌, ◌<◌, ◌≤◌, ◌⊎◌}
use Rattle.std.specs.Int.{Width, byte_len, w32, w64}
use mir.Val.{bits}
use Rattle.rkyv_base.specs.Scalar.{Encoding}

-- The sizes of a width, in words: alignment one, text two, table header three, index map header
-- four. The text limit is a quarter of the numbers of a word. The limit fits in a word
-- and is below 2^63. The greatest capacity is at most the limit.
pub record IsLayout (word : Width)
    (limit max_capacity table_size index_size align text_size text_limit : ℕ) : Type 0 where
  pub kind : (word ≡ w32) ⊎ (word ≡ w64)
  pub limit_fits : limit < 2 ^ bits word
  pub limit_small : limit < 2 ^ 63
  pub capacity_small : max_capacity ≤ limit
  pub align_is : align ≡ byte_len word
  pub table_is : table_size ≡ 3 * align
  pub index_is : index_size ≡ 4 * align
  pub text_is : text_size ≡ 2 * align
  pub text_limit_is : text_limit * 4 ≡ 2 ^ bits word

-- an index of an index map is any number of one word
pub record IsIndexEncoding {V : Type 0} (w : Width) (e : Encoding V) : Type 0 where
  pub word : e.word ≡ w
  pub any : (n : ℕ) → e.IsCode n

-- the greatest length of a narrow archive, in bytes
abbrev pub narrow_limit : ℕ
narrow_limit = 4294967295

-- the greatest length of a wide archive, in bytes
abbrev pub wide_limit : ℕ
wide_limit = 9223372036854775807
