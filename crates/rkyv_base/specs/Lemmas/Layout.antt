-- Lemmas: the sizes that the width of an archive fixes.
use Rattle.std.specs.Prelude.{◌≡◌, ℕ, ◌*◌, ◌^◌, ◌<◌, ◌≤◌, ◌⊎◌}
use Rattle.std.specs.Int.{Width, byte_len, w32, w64}
use Rattle.std.proofs.Common.{lit<, lit≤, arith}
use Rattle.std.proofs.lemmas.Grind.{common_steps}
use mir.Val.{bits}
use Rattle.rkyv_base.specs.{IsLayout, narrow_limit}

-- the layout of a word, with limits that fit in it
word_layout : (w : Width) (limit max_capacity text_limit : ℕ) → (w ≡ w32) ⊎ (w ≡ w64)
    → limit < 2 ^ bits w → limit < 2 ^ 63 → max_capacity ≤ limit → text_limit * 4 ≡ 2 ^ bits w
    → IsLayout w limit max_capacity (3 * byte_len w) (4 * byte_len w) (byte_len w) (2 * byte_len w)
    text_limit
word_layout w limit max_capacity text_limit kind fits small capacity text =
    grind (arith, common_steps)

pub narrow_layout : IsLayout w32 narrow_limit 4294967295 12 16 4 8 1073741824
narrow_layout = grind (arith, common_steps, word_layout, lit<, lit≤)

pub wide_layout : IsLayout w64 9223372036854775807 4611686018427387904 24 32 8 16
    4611686018427387904
wide_layout = grind (arith, common_steps, word_layout, lit<, lit≤)
