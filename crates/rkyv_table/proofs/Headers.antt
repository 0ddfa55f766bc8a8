-- The positions that the numbers of a header lead to.
use Rattle.std.proofs.Common.{◌≡◌, ℕ, ◌*◌, List, ℤ, pos, ◌+ℤ◌, ◌-ℤ◌, FitsSigned, to_z, of_z, arith}
use Rattle.std.proofs.lemmas.Grind.{common_steps}
use Rattle.std.specs.Int.{Width, w128}
use Rattle.std.proofs.lemmas.Int.{to_z-of_z}
use Rattle.rkyv_base.specs.{signed_at}
use Rattle.rkyv_table.specs.{cap_at, decode_begin}

-- the computed begin of the buckets
pub begin_is : (w : Width) (size : ℕ) (b : List ℕ) (p : ℕ) (distance decoded : ℤ) (cap n : ℕ) → FitsSigned w128 decoded
    → distance ≡ signed_at w b p → cap ≡ cap_at w b p → n ≡ size
    → decoded ≡ (pos p +ℤ distance) -ℤ pos (cap * n) → to_z w128 (of_z w128 decoded) ≡ decode_begin w size b p
begin_is w size b p distance decoded cap n fits e f k h = grind (arith, common_steps, to_z-of_z)
