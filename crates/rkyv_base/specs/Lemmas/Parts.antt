-- Lemmas: the range of bytes for the parts of a value.
use Rattle.std.specs.Prelude.{◌≡◌, ℕ, ◌≤◌, ℤ}
use Rattle.std.proofs.Common.{arith, inl, inr, sym, ◌∙◌}
use Rattle.std.proofs.lemmas.Grind.{common_steps}
use Rattle.std.proofs.Props.{props}
use Rattle.std.proofs.lemmas.Int.{ints}
use Rattle.rkyv_base.specs.declared.errors.VerifyError.{VerifyError}
use Rattle.rkyv_base.specs.{PartFails, PartIn}

-- a part has only one position
pub part_one : (begin : ℤ) (size align lo hi at at' : ℕ) → PartIn begin size align lo hi at
    → PartIn begin size align lo hi at' → at ≡ at'
part_one begin size align lo hi at at' p q = omega (arith, ints, p.begins, q.begins)

pub part_prop : (begin : ℤ) (size align lo hi at : ℕ) → IsProp (PartIn begin size align lo hi at)
part_prop begin size align lo hi at = hlevel props

-- a part in the range has no fault
pub part_exclusive : (begin : ℤ) (size align lo hi at : ℕ) (e : VerifyError)
    → PartIn begin size align lo hi at → PartFails begin size align lo hi e → ⊥
part_exclusive begin size align lo hi at e p h = grind (arith, common_steps, ints)

-- a part has only one fault
pub part_one_failure : (begin : ℤ) (size align lo hi : ℕ) (e e' : VerifyError)
    → PartFails begin size align lo hi e → PartFails begin size align lo hi e' → e ≡ e'
part_one_failure begin size align lo hi e e' (inl h) (inl k) = h.1 ∙ sym k.1
part_one_failure begin size align lo hi e e' (inl (inl h, q))
    (inr (at, begins, above, below, unaligned, q')) = absurd (omega (arith, ints, begins, above, h))
part_one_failure begin size align lo hi e e' (inl (inr h, q))
    (inr (at, begins, above, below, unaligned, q')) = absurd (omega (arith, ints, begins, below, h))
part_one_failure begin size align lo hi e e' (inr (at, begins, above, below, unaligned, q))
    (inl (inl h, q')) = absurd (omega (arith, ints, begins, above, h))
part_one_failure begin size align lo hi e e' (inr (at, begins, above, below, unaligned, q))
    (inl (inr h, q')) = absurd (omega (arith, ints, begins, below, h))
part_one_failure begin size align lo hi e e' (inr (at, begins, above, below, unaligned, q))
    (inr (at', begins', above', below', unaligned', q')) = grind (arith, common_steps, ints)

-- a part is also in a wider range
pub part_wider : (begin : ℤ) (size align lo lo' hi hi' at : ℕ) → lo' ≤ lo → hi ≤ hi'
    → PartIn begin size align lo hi at → PartIn begin size align lo' hi' at
part_wider begin size align lo lo' hi hi' at low high p = grind (arith, common_steps)
