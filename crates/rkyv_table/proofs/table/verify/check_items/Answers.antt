use Rattle.std.proofs.Common.{◌≡◌, ◌∙◌, ◌+◌, ◌≤◌, ◌∷◌, List, arith, drop, ℕ, rules}
use Rattle.std.proofs.lemmas.Grind.{common_steps}
use Rattle.std.proofs.lemmas.Result.{err_from_is_err_and}
use Rattle.rkyv_table.specs.{full_from}
use Rattle.rkyv_table.proofs.ItemSteps.{IsPartlyChecked, below_head, checked_end, checked_fails, checked_init, checked_same, checked_small, checked_step, marks_and_rest, marks_below, rest_group, rest_head, rest_none}
use Rattle.rkyv_table.proofs.SealedItems.{full_skipped, full_taken}
use Rattle.rkyv_table.proofs.table.verify.check_items.Goals as goal
use Rattle.rkyv_table.proofs.table.verify.check_items.Goals.{In-Some, then-controls-bucket-lt128+in_ok-low-2, else-controls-bucket-lt128}
use Rattle.rkyv_table.proofs.Walks.{full_end}

pub loop-base-init : goal.loop-base-init
loop-base-init g c = grind (arith, common_steps, checked_init g.T.HasSpec.spec c.args.begin c.args.cap c.args.bytes.now c.args.controls.now c.args.lo c.requires.ordered)

pub loop-j-init : goal.loop-j-init
loop-j-init g c =
    let w = g.G.GroupKind.kind.width in
    let e : c.WIDTH.result ≡ w = c.WIDTH.ensures ∙ g.met.G.GroupKind.width in
    let b = c.loop-base.base in
    let t = c.loop-base-test.true in
    let i = c.loop-base.invariant.below in
    let marks : List ℕ = g.G.Mask.Marks.indices c.match_full-marks.result in
    let shows : List ℕ = g.G.GroupKind.controls c.read.result in
    let inside : b + w ≤ c.args.cap = omega arith in
    record {
      inside = inside;
      below = marks_below shows w marks c.match_full-marks.ensures;
      checked = checked_same g.T.HasSpec.spec c.args.begin c.args.cap c.args.bytes.now c.args.controls.now c.args.lo (full_from c.args.controls.now c.args.cap b) (marks_and_rest c.args.controls.now c.args.cap b w marks) c.loop-base.low c.loop-base.count
          (rest_group c.args.controls.now shows c.args.cap b w marks inside c.read.ensures c.match_full-marks.ensures) c.loop-base.invariant.checked;
    }

-- a marked bucket
module _ (g : _) (c : In-Some g) where
  abbrev rest : List ℕ
  rest = marks_and_rest c.args.controls.now c.args.cap c.loop-base.base g.G.GroupKind.kind.width (drop 1 (g.G.Mask.Marks.indices c.loop-j.marks))

  here : IsPartlyChecked g.T.HasSpec.spec c.args.begin c.args.cap c.args.bytes.now c.args.controls.now c.args.lo ((c.loop-base.base + c.in-Some.j) ∷ rest) c.loop-j.low c.loop-j.count
  here = grind (arith, common_steps, checked_same, rest_head)

pub overflow_add-base : goal.overflow_add-base
overflow_add-base g c = grind (arith, common_steps, below_head)

pub check_item-requires-clause-bucket : goal.check_item-requires-clause-bucket
check_item-requires-clause-bucket g c = grind (arith, common_steps, below_head)

pub returns-in_err-low-clause-fails : goal.returns-in_err-low-clause-fails
returns-in_err-low-clause-fails g c =
    let arm = (goal.at.returns-in_err-low-clause-fails g c).In-Some in
    let p = err_from_is_err_and c.from_residual.result c.from_residual.ensures.1 in
    rw (p.1, p.2) (checked_fails g.T.HasSpec.spec c.args.begin c.args.cap c.args.bytes.now c.args.controls.now c.args.lo (c.loop-base.base + c.in-Some.j) (rest g arm) c.loop-j.low c.loop-j.count c.in_err-low.field-0.0 (here g arm) c.in_err-low.ensures)

pub overflow_add-count : goal.overflow_add-count
overflow_add-count g c =
    let arm = (goal.at.overflow_add-count g c).In-Some in
    grind (arith, common_steps, checked_small g.T.HasSpec.spec c.args.begin c.args.cap c.args.bytes.now c.args.controls.now c.args.lo (c.loop-base.base + c.in-Some.j) (rest g arm) c.loop-j.low c.loop-j.count (here g arm), here g arm)

pub loop-base-preserved : goal.loop-base-preserved
loop-base-preserved g c = grind (arith, common_steps, checked_same, rest_none)

pub returns-in_err-low-2-clause-fails : goal.returns-in_err-low-2-clause-fails
returns-in_err-low-2-clause-fails g c = grind (arith, common_steps, here, checked_same, full_taken, err_from_is_err_and, checked_fails)

pub overflow_add-count-then-controls-bucket-lt128 : goal.overflow_add-count-then-controls-bucket-lt128
overflow_add-count-then-controls-bucket-lt128 g c =
    let i = c.loop-bucket.bucket in
    let here = checked_same g.T.HasSpec.spec c.args.begin c.args.cap c.args.bytes.now c.args.controls.now c.args.lo _ _ c.loop-bucket.low c.loop-bucket.count
    (full_taken c.args.controls.now c.args.cap i c.loop-bucket-test.true c.if-controls-bucket-lt128.true) c.loop-bucket.invariant.checked in
    search (rules, checked_small, here)

pub loop-bucket-preserved : goal.loop-bucket-preserved
loop-bucket-preserved g c = grind (arith, common_steps, here, checked_same, full_taken, checked_step, full_skipped)

pub returns-clause-valid : goal.returns-clause-valid
returns-clause-valid g c = grind (arith, common_steps, full_end, checked_end, checked_same)

pub returns-clause-count : goal.returns-clause-count
returns-clause-count g c = grind (arith, common_steps, full_end, checked_end, checked_same)

pub remove_lowest_bit-marks-requires : goal.remove_lowest_bit-marks-requires
remove_lowest_bit-marks-requires g c = grind (arith, common_steps)
