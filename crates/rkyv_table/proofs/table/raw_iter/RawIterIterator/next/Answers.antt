use Rattle.std.proofs.Common.{◌∙◌, ap, arith, get_or, List, ltb, ℕ}
use Rattle.std.proofs.lemmas.Grind.{common_steps}
use Rattle.rkyv_scan.specs.{indices_where, mask_indices}
use Rattle.rkyv_table.proofs.RawSteps.{head_before, head_keeps, head_positions, next_inside, next_keeps, next_positions}
use Rattle.rkyv_table.proofs.table.raw_iter.RawIterIterator.next.Goals as goal

pub overflow_add-result : goal.overflow_add-result
overflow_add-result g c =
    let s = c.loop-self.self-inside in
    let h = head_before s.buckets_end s.size s.count s.controls.now s.base (mask_indices 8 7 8 s.marks.bits) c.loop-self.invariant.is c.in-Some.j (omega (arith, c.loop-self-test.true)) c.in-Some.ensures in
    record { fits = omega (arith, h.0) }

pub overflow_mul-result : goal.overflow_mul-result
overflow_mul-result g c =
    let s = c.loop-self.self-inside in
    let h = head_before s.buckets_end s.size s.count s.controls.now s.base (mask_indices 8 7 8 s.marks.bits) c.loop-self.invariant.is c.in-Some.j (omega (arith, c.loop-self-test.true)) c.in-Some.ensures in
    record { fits = omega (arith, h.1) }

pub overflow_sub-result : goal.overflow_sub-result
overflow_sub-result g c =
    let s = c.loop-self.self-inside in
    let h = head_before s.buckets_end s.size s.count s.controls.now s.base (mask_indices 8 7 8 s.marks.bits) c.loop-self.invariant.is c.in-Some.j (omega (arith, c.loop-self-test.true)) c.in-Some.ensures in
    h.1

pub invariant_of-self-in-Some : goal.invariant_of-self-in-Some
invariant_of-self-in-Some g c =
    let s = c.loop-self.self-inside in
    rw c.remove_lowest_bit-self-inside.ensures
    (head_keeps s.buckets_end s.size s.count s.controls.now s.base (mask_indices 8 7 8 s.marks.bits) c.loop-self.invariant.is c.in-Some.j (omega (arith, c.loop-self-test.true)) c.in-Some.ensures)

pub returns-in-Some-clause-steps : goal.returns-in-Some-clause-steps
returns-in-Some-clause-steps g c = grind (arith, common_steps, head_positions)

pub returns-in-Some-clause-goes : goal.returns-in-Some-clause-goes
returns-in-Some-clause-goes g c = grind (arith, common_steps, returns-in-Some-clause-steps g c)

pub overflow_add-self : goal.overflow_add-self
overflow_add-self g c =
    let s = c.loop-self.self-inside in
    let h = next_inside s.buckets_end s.size s.count s.controls.now s.base (mask_indices 8 7 8 s.marks.bits) c.loop-self.invariant.is (omega (arith, c.loop-self-test.true)) c.in_default.ensures in
    record { fits = omega (arith, h.0) }

pub overflow_mul-self : goal.overflow_mul-self
overflow_mul-self g c =
    let s = c.loop-self.self-inside in
    let h = next_inside s.buckets_end s.size s.count s.controls.now s.base (mask_indices 8 7 8 s.marks.bits) c.loop-self.invariant.is (omega (arith, c.loop-self-test.true)) c.in_default.ensures in
    record { fits = omega (arith, h.1) }

pub overflow_sub-self-in-loop-self : goal.overflow_sub-self-in-loop-self
overflow_sub-self-in-loop-self g c =
    let s = c.loop-self.self-inside in
    let h = next_inside s.buckets_end s.size s.count s.controls.now s.base (mask_indices 8 7 8 s.marks.bits) c.loop-self.invariant.is (omega (arith, c.loop-self-test.true)) c.in_default.ensures in
    h.1

pub read-requires : goal.read-requires
read-requires g c =
    let s = c.loop-self.self-inside in
    let h = next_inside s.buckets_end s.size s.count s.controls.now s.base (mask_indices 8 7 8 s.marks.bits) c.loop-self.invariant.is (omega (arith, c.loop-self-test.true)) c.in_default.ensures in
    omega (arith, h.0)

pub loop-self-preserved : goal.loop-self-preserved
loop-self-preserved g c =
    let s = c.loop-self.self-inside in
    let marks : List ℕ = mask_indices 8 7 8 c.match_full-self-inside.result.bits in
    let read = c.match_full-self-inside.ensures ∙ ap (λ (xs : List ℕ). indices_where (λ j. ltb (get_or xs j 0) 128) 8) c.read.ensures in
    record {
      is = next_keeps s.buckets_end s.size s.count s.controls.now s.base (mask_indices 8 7 8 s.marks.bits) c.loop-self.invariant.is (omega (arith, c.loop-self-test.true)) c.in_default.ensures marks read;
      archive = c.loop-self.invariant.archive;
      value = c.loop-self.invariant.value
          ∙ next_positions s.buckets_end s.size s.count s.controls.now s.base (mask_indices 8 7 8 s.marks.bits) c.loop-self.invariant.is (omega (arith, c.loop-self-test.true)) c.in_default.ensures marks read;
    }
