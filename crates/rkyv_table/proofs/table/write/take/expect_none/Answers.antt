use Rattle.std.proofs.Common.{arith, ◌≡◌, ◌+◌, ◌∷◌, [], refl, inr}
use Rattle.rkyv_table.proofs.table.write.take.expect_none.Goals as goal

pub returns-in-Some : goal.returns-in-Some
returns-in-Some g c =
    let one : 1 ≡ 0 + 1 = omega arith in
    ((c.in-Some.field-0 ∷ [], refl, inr (one, (_, (_, c.in-Some.ensures.steps, refl)))), λ z. omega (arith, z))
