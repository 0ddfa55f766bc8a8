-- Headers with the same bytes have the same numbers, and lead to the same positions.
use Rattle.std.specs.Prelude.{◌≡◌, ℕ, ◌+◌, ◌-◌, ◌*◌, ◌≤◌, pos, ◌+ℤ◌, List, unsigned_abs}
use Rattle.std.specs.Int.{Width, byte_len, cast_signed}
use Rattle.std.proofs.Common.{arith, ap, subst}
use Rattle.std.proofs.lemmas.Grind.{common_steps}
use Rattle.rkyv_base.specs.{AgreeOn, number_at, signed_at}
use Rattle.rkyv_base.specs.Lemmas.Bytes.{agree_on_part}
use Rattle.rkyv_table.specs.Table.Header.{cap_at, controls_pos, decode_begin, len_at}
use Rattle.rkyv_table.specs.Table.Positions.{item_at}

module _ (w : Width) (b c : List ℕ) (p : ℕ) (same : AgreeOn b c p (p + 3 * byte_len w)) where
  number_same : (k : ℕ) → k + byte_len w ≤ 3 * byte_len w
      → number_at w b (p + k) ≡ number_at w c (p + k)
  number_same k fits = grind (arith, agree_on_part)

  pub len_same : len_at w b p ≡ len_at w c p
  len_same = number_same (byte_len w) (omega arith)

  pub cap_same : cap_at w b p ≡ cap_at w c p
  cap_same = number_same (2 * byte_len w) (omega arith)

  distance_same : signed_at w b p ≡ signed_at w c p
  distance_same =
      let z : p + 0 ≡ p = omega arith in
      ap (cast_signed w) (subst (λ n. number_at w b n
      ≡ number_at w c n) z (number_same 0 (omega arith)))

  pub begin_same : (size : ℕ) → decode_begin w size b p ≡ decode_begin w size c p
  begin_same size = grind (arith, common_steps, distance_same, cap_same)

  pub pos_same : controls_pos w b p ≡ controls_pos w c p
  pos_same = ap (λ d. unsigned_abs (pos p +ℤ d)) distance_same

  pub item_same : (size i : ℕ) → item_at w size b p i ≡ item_at w size c p i
  item_same size i = ap (λ n. n - (i + 1) * size) pos_same
