-- Zeros that are slices of a fixed array of eight.
use Rattle.std.specs.Prelude.{◌≡◌, ℕ, ◌%◌, ◌≤◌, take, replicate}
use Rattle.std.proofs.Common.{arith, ap, ◌∙◌}
use Rattle.std.proofs.lemmas.Grind.{common_steps}
use Rattle.std.proofs.lemmas.List.{length-replicate, take-replicate}
use Rattle.rkyv_base.specs.declared.errors.WriteError.{WriteError}
use Rattle.rkyv_base.specs.{Appends, IsAlign, Only, Output, WriteFails, end_of, padding, piece, zeros}
use Rattle.rkyv_base.specs.Lemmas.ElementSpec.{align_small}
use Rattle.rkyv_base.specs.Lemmas.Entry.{round_up-multiple}
use Rattle.rkyv_base.specs.Lemmas.Writing.{end-appends}

-- the zeros up to an alignment are a front of eight
zeros-cut : (a p n : ℕ) → IsAlign a → n ≡ padding a p → take n (replicate 8 0) ≡ zeros (padding a p)
zeros-cut a p n al e =
    let small = align_small a al in
    let few : padding a p ≤ 8 = omega (arith, small.0, small.1) in
    ap (λ k. take k (replicate 8 0)) e ∙ take-replicate (padding a p) 8 0 few

-- an error of writing the cut is an error of writing the zeros
pub fails_of_zeros : {F : Type 0} (limit a p n : ℕ) (o o' : Output) (e : WriteError F) → IsAlign a → n ≡ padding a p
    → WriteFails limit (Only (piece (take n (replicate 8 0)))) o o' e → WriteFails limit (Only (piece (zeros (padding a p)))) o o' e
fails_of_zeros limit a p n o o' e al same fails = grind (arith, common_steps, zeros-cut)

-- `p`: end of a write of the cut, a multiple of the alignment
pub aligned_by_zeros : (limit a n p : ℕ) (o o' : Output) → IsAlign a → n ≡ padding a (end_of o) → p ≡ end_of o' → Appends o o' (take n (replicate 8 0))
    → end_of o' ≤ limit → Appends o o' (zeros (padding a (end_of o))) × (p ≡ end_of o') × (p ≤ limit) × (p % a ≡ 0)
aligned_by_zeros limit a n p o o' al same at cut within = grind (arith, common_steps, zeros-cut, end-appends, length-replicate, round_up-multiple)
