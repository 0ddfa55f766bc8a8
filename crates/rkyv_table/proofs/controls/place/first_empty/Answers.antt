use Rattle.std.proofs.Common.{arith, ◌+◌, ◌*◌, ◌<◌, ◌≤◌, ◌/◌, sym, ◌∙◌, None, rules}
use Rattle.std.proofs.lemmas.Grind.{common_steps}
use Rattle.rkyv_table.specs.{is_empty_at}
use Rattle.rkyv_table.proofs.Groups.{group_fits, groups_end, indices_are, width_divides}
use Rattle.rkyv_table.proofs.FirstFree.{empty_index_is, index_inside, more_indices, whole_stride}
use Rattle.rkyv_table.proofs.controls.place.first_empty.Goals as goal

pub overflow_add-result : goal.overflow_add-result
overflow_add-result g c = grind (arith, common_steps, group_fits, index_inside)

pub returns-in-Some : goal.returns-in-Some
returns-in-Some g c =
    let i = c.loop-i.i in
    let w = g.G.GroupKind.kind.width in
    let lt : i < 16 / g.G.GroupKind.kind.width = rw (c.WIDTH-i-end.ensures, g.met.G.GroupKind.width) at c.loop-i-test.true in
    let fits = group_fits i g.G.GroupKind.kind.width lt in
    let s = rw (c.WIDTH.ensures, g.met.G.GroupKind.width) at c.read.ensures in
    let v = c.in-Some.ensures in
    let v' = rw (c.match_empty.ensures, indices_are) at v in
    let m = more_indices c.args.controls.now (g.G.GroupKind.controls c.read.result) c.args.pos i g.G.GroupKind.kind.width _ s c.loop-i.invariant v' in
    let le : (i + 1) * g.G.GroupKind.kind.width ≤ 16 = omega arith in
    let r = whole_stride (is_empty_at c.args.controls.now) c.args.pos ((i + 1) * g.G.GroupKind.kind.width) (c.args.pos + i * g.G.GroupKind.kind.width + c.in-Some.j) le m in
    rw (c.WIDTH.ensures, g.met.G.GroupKind.width) (sym (empty_index_is c.args.controls.now c.args.pos ∙ r))

pub loop-i-preserved : goal.loop-i-preserved
loop-i-preserved g c =
    let i = c.loop-i.i in
    let s = rw (c.WIDTH.ensures, g.met.G.GroupKind.width) at c.read.ensures in
    let v = c.in_default.ensures in
    let v' = rw (c.match_empty.ensures, indices_are) at v in
    more_indices c.args.controls.now (g.G.GroupKind.controls c.read.result) c.args.pos i g.G.GroupKind.kind.width None s c.loop-i.invariant v'

pub returns : goal.returns
returns g c = search (rules, groups_end, width_divides, empty_index_is)
