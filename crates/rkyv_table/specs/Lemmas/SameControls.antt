-- A valid table has the same control bytes in an archive with the same bytes.
use Rattle.std.proofs.Common.{◌≡◌, ℕ, ◌+◌, ◌*◌, ◌<◌, ◌≤◌, ap, ◌∙◌, arith, List}
use Rattle.std.specs.Int.{Width, byte_len}
use Rattle.std.specs.Prelude.{slice_range}
use Rattle.rkyv_base.specs.{AgreeOn, ElementSpec, IsElement}
use Rattle.rkyv_base.specs.Lemmas.Bytes.{agree_on_part}
use Rattle.rkyv_table.specs.{IsValidTable, cap_at, control_count, controls_pos, table_controls}
use Rattle.rkyv_table.specs.Lemmas.ItemPositions.{decoded_pos, valid_part}
use Rattle.rkyv_table.specs.Lemmas.SameHeader.{cap_same, pos_same}

pub same_controls : (w : Width) (s : ElementSpec) → IsElement s → (b c : List ℕ) (p lo hi l : ℕ)
    → lo ≤ hi
    → IsValidTable w s b p lo hi l → AgreeOn b c p (p + 3 * byte_len w) → AgreeOn b c lo l
    → 0 < cap_at w b p → table_controls w b p ≡ table_controls w c p
same_controls w s law b c p lo hi l o h fixed part some =
    let t = valid_part w s law b p lo hi l h some in
    let at = decoded_pos w s.size b p t.begin t.part.begins in
    let above = t.part.above in
    let ends = t.ends in
    let z = controls_pos w b p in
    agree_on_part b c lo l z (z + control_count (cap_at w b p)) (omega (arith, at, above))
    (omega (arith, at, ends)) (omega arith) part
    ∙ ap (λ n. slice_range c n (n + control_count (cap_at w b p))) (pos_same w b c p fixed)
    ∙ ap (λ n. slice_range c (controls_pos w c p) (controls_pos w c p + control_count n))
    (cap_same w b c p fixed)
