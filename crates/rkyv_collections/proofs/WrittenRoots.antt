-- The root of a written archive, under any relation that its format keeps.
use Rattle.std.proofs.Common.{◌≡◌, ℕ, ◌+◌, ◌-◌, arith, List, length}
use Rattle.std.proofs.lemmas.List.{take_all}
use Rattle.rkyv_base.specs.{ElementSpec, Format, IsElement, IsFormat, OccursAt, RootBytes}
use Rattle.rkyv_base.proofs.RootWriting.{root_sound}

pub root_keeps : {V R : Type 0} (limit : ℕ) (s : ElementSpec) → IsElement s → (keeps : List ℕ → ℕ → V → Type 0) (f : Format V R) → IsFormat s keeps f → (v : V) (b : List ℕ) (root : ℕ)
    → RootBytes s.align f v 0 b root → keeps b root v
root_keeps limit s laws keeps f format v b root made =
    let k : 0 + length b - 0 ≡ length b = omega arith in
    let all : OccursAt b 0 b = record { inside = omega arith; there = rw k (take_all (length b) b (omega arith)) } in
    (root_sound limit s laws keeps f format v b 0 root b made all).7
