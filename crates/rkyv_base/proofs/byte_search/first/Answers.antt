use Rattle.std.proofs.Common.{◌+◌, ℕ, List, arith, length, take, drop, ◌∙◌, ap}
use Rattle.std.specs.List.{position}
use Rattle.std.proofs.lemmas.List.{take_rest}
use Rattle.rkyv_base.proofs.FirstMark.{eight, eight_stretch, none_first, rest_stretch, stretch_hit, stretch_miss, whole}
use Rattle.rkyv_base.proofs.byte_search.first.Goals as goal

pub returns-in-Some : goal.returns-in-Some
returns-in-Some g c =
    let xs : List ℕ = c.args.bytes.now in
    let at = c.loop-at.at in
    let t = c.loop-at-test.true in
    let i = c.loop-at.invariant.0 in
    stretch_hit g.S.ByteClass.in_class xs (take 8 (drop at xs)) at c.in-Some.len (eight_stretch xs at (omega arith)) c.loop-at.invariant.1 (c.in-Some.ensures ∙ ap (λ ys. position g.S.ByteClass.in_class (take 8 ys)) (take_rest xs at))

pub loop-at-preserved : goal.loop-at-preserved
loop-at-preserved g c = grind (arith, eight, stretch_miss, eight_stretch, take_rest)

pub returns : goal.returns
returns g c =
    let xs : List ℕ = c.args.bytes.now in
    let at = c.loop-at.at in
    stretch_hit g.S.ByteClass.in_class xs (drop at xs) at c.in_ok-first_of_bytes.field-0 (rest_stretch xs at c.loop-at.invariant.0) c.loop-at.invariant.1 (c.in_ok-first_of_bytes.ensures ∙ ap (position g.S.ByteClass.in_class) (take_rest xs at))

pub returns-in_err-first_of_bytes : goal.returns-in_err-first_of_bytes
returns-in_err-first_of_bytes g c =
    let xs : List ℕ = c.args.bytes.now in
    let at = c.loop-at.at in
    let e = whole xs at c.loop-at.invariant.0 in
    c.from_residual.ensures
    ∙ none_first g.S.ByteClass.in_class xs (at + length (drop at xs)) (omega arith)
    (stretch_miss g.S.ByteClass.in_class xs (drop at xs) at (rest_stretch xs at c.loop-at.invariant.0) c.loop-at.invariant.1 (c.in_err-first_of_bytes.ensures ∙ ap (position g.S.ByteClass.in_class) (take_rest xs at)))
