-- Lemmas: the size and the alignment of an element, and the condition for valid bytes.
use Rattle.std.specs.Prelude.{◌≡◌, ℕ, ◌+◌, ◌%◌, ◌<◌, ◌≤◌, max, List, length}
use Rattle.std.specs.Coded.{le_prop, ×_prop}
use Rattle.std.proofs.Common.{arith, refl}
use Rattle.std.proofs.lemmas.Grind.{common_steps}
use Rattle.std.proofs.Props.{props}
use Rattle.rkyv_base.specs.Lemmas.Props.{only_one, prop_by}
use Rattle.rkyv_base.specs.ElementSpecs.{ElementSpec, IsAlign, IsElement, ValidAt, Viewable}

-- that the bytes have a valid value is a proposition
pub valid_at_prop : (s : ElementSpec) → IsElement s → (b : List ℕ) (p : ℕ) → IsProp (ValidAt s b p)
valid_at_prop s laws b p = only_one (laws.proper b p 0 p) (laws.rest_unique b p 0 p)

pub viewable_prop : (s : ElementSpec) → IsElement s → (b : List ℕ) (p : ℕ) → IsProp (Viewable s b p)
viewable_prop s laws b p =
    prop_by {B = (p + s.size ≤ length b) × ((p % s.align ≡ 0) × ValidAt s b p)}
    (λ v. (v.inside, (v.aligned, v.valid)))
    (λ v. record { inside = v.0; aligned = v.1.0; valid = v.1.1 }) (λ _. refl)
    (×_prop le_prop (×_prop (hlevel props) (valid_at_prop s laws b p)))

-- a valid value with its parts in some range is valid with the widest range
pub valid_at : (s : ElementSpec) → IsElement s → (b : List ℕ) (p lo hi l : ℕ) → lo ≤ hi → hi ≤ p
    → s.is_valid b p lo hi l → ValidAt s b p
valid_at s laws b p lo hi l o o' h =
    let d : (l' : ℕ) × s.is_valid b p 0 hi l' × (l' ≤ l) =
    laws.lower_lo b p lo 0 hi l (omega arith) o h in
    (d.0, laws.widen_hi b p 0 hi p d.0 o' d.1)

-- a property of each alignment is one of any alignment
pub by_align : (P : ℕ → Type 0) → P 1 → P 2 → P 4 → P 8 → (a : ℕ) → IsAlign a → P a
by_align P p1 p2 p4 p8 a h = grind (arith, common_steps)

-- an alignment is from 1 to 8
pub align_small : (a : ℕ) → IsAlign a → (0 < a) × (a ≤ 8)
align_small a al = grind (arith, common_steps, by_align)

-- the greater of two alignments is one, and its multiples are the multiples of both
pub max_align : (a b : ℕ) → IsAlign a → IsAlign b → IsAlign (max a b)
max_align a b ha hb = grind (arith, common_steps, by_align)

pub multiple_of_max : (p a b : ℕ) → IsAlign a → IsAlign b → p % max a b ≡ 0 → (p % a ≡ 0)
    × (p % b ≡ 0)
multiple_of_max p a b ha hb = grind (arith, common_steps, by_align)

pub sum_multiple : (p n a : ℕ) → IsAlign a → p % a ≡ 0 → n % a ≡ 0 → (p + n) % a ≡ 0
sum_multiple p n a ha = grind (arith, common_steps, by_align)
