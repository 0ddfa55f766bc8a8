use Rattle.std.proofs.Common.{◌∙◌, ◌≡◌, ◌+◌, ◌*◌, ◌-◌, ◌<◌, ap, arith, subst, List, ℕ}
use Rattle.std.proofs.lemmas.Grind.{common_steps}
use Rattle.std.specs.List.{All}
use Rattle.std.proofs.lemmas.List.Elements.{All-head, All-rest}
use Rattle.std.proofs.Math.Nat.{add-mul}
use Rattle.rkyv_base.specs.{Viewable, entry_spec}
use Rattle.rkyv_index.specs.{row}
use Rattle.rkyv_index.proofs.Checking.{view_there}
use Rattle.rkyv_index.proofs.Rows.{row_step}
use Rattle.rkyv_index.proofs.map.read.iter.IterIterator.next.Goals as goal

pub value-requires : goal.value-requires
value-requires g c =
    let s = entry_spec g.K.HasSpec.spec g.V.HasSpec.spec in
    let i = c.self.inside in
    let none = c.if-self-eq0.false in
    let some : 0 < i.left = omega arith in
    let all_valid = c.self.invariant.all_valid in
    let here = All-head (Viewable s i.archive.now) i.at (row i.size (i.at + i.size) (i.left - 1)) (subst (All (Viewable s i.archive.now)) (row_step i.size i.at i.left some) all_valid) in
    view_there s c.new-entry.result i.archive i.at c.new-entry.ensures here

pub returns-clause-steps : goal.returns-clause-steps
returns-clause-steps g c = grind (arith, common_steps, row_step)

pub returns-clause-goes : goal.returns-clause-goes
returns-clause-goes g c = grind (arith, common_steps, row_step)

-- the entries after the first are valid and end below 2^64
pub invariant_of-self : goal.invariant_of-self
invariant_of-self g c =
    let s = entry_spec g.K.HasSpec.spec g.V.HasSpec.spec in
    let i = c.self.inside in
    let none = c.if-self-eq0.false in
    let some : 0 < i.left = omega arith in
    let rest : List ℕ = row i.size (i.at + i.size) (i.left - 1) in
    let e : i.left ≡ 1 + (i.left - 1) = omega arith in
    let m = ap (λ n. n * i.size) e ∙ add-mul 1 (i.left - 1) i.size in
    let below = c.self.invariant.below in
    record {
      below = omega (arith, m, below);
      all_valid = All-rest (Viewable s i.archive.now) i.at rest (row i.size i.at i.left) (row_step i.size i.at i.left some) c.self.invariant.all_valid;
    }
