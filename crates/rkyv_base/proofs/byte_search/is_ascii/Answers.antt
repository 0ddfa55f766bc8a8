use Rattle.std.proofs.Common.{◌≡◌, ◌+◌, ◌-◌, ◌≤◌, ℕ, List, Option, arith, drop, leb, length, take, None}
use Rattle.std.proofs.lemmas.Grind.{common_steps}
use Rattle.std.specs.List.{position}
use Rattle.std.proofs.lemmas.List.{take_rest}
use Rattle.rkyv_base.proofs.Ascii.{none_high}
use Rattle.rkyv_base.proofs.FirstMark.{NoneBelow, eight, eight_stretch, is_absent, stretch_miss}
use Rattle.rkyv_base.proofs.byte_search.is_ascii.Goals as goal

-- the next eight bytes, all below 128
on : (xs : List ℕ) (at : ℕ) (o : Option ℕ) → at + 8 ≤ length xs → NoneBelow (λ x. leb 128 x) xs at
    → o ≡ position (λ x. leb 128 x) (take 8 (take (length xs - at) (drop at xs))) → None ≡ o → NoneBelow (λ x. leb 128 x) xs (at + 8)
on xs at o le before e none = grind (arith, stretch_miss, eight_stretch, take_rest, eight)

pub loop-at-preserved : goal.loop-at-preserved
loop-at-preserved c = grind (arith, common_steps, on, is_absent)

pub returns : goal.returns
returns c t = grind (arith, common_steps, on, is_absent, none_high)
