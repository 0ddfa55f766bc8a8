use Rattle.std.proofs.Common.{◌≡◌, ◌+◌, ◌∙◌, ap, arith, sym}
use Rattle.std.proofs.lemmas.Grind.{common_steps}
use Rattle.rkyv_table.specs.{full_from}
use Rattle.rkyv_table.proofs.Groups.{width_small}
use Rattle.rkyv_table.proofs.Walks.{ends_full, ends_last, ends_past, group_walk, head_inside, keeps_walk, left_group, left_none, takes_index, walk_from, walk_of}
use Rattle.rkyv_table.proofs.controls.walk.WalkIterator.next.Goals as goal

pub overflow_add-bucket : goal.overflow_add-bucket
overflow_add-bucket g c = grind (arith, common_steps, width_small g.G.GroupKind.kind g.met.G.GroupKind.lawful, head_inside)

pub returns-then-bucket-self-clause-steps : goal.returns-then-bucket-self-clause-steps
returns-then-bucket-self-clause-steps g c = grind (arith, common_steps, ends_past, walk_from)

pub invariant_of-self-in-Some : goal.invariant_of-self-in-Some
invariant_of-self-in-Some g c =
    let s = c.loop-self.self-inside in
    keeps_walk s.controls.now s.cap s.base g.G.GroupKind.kind.width c.in-Some.j (g.G.Mask.Marks.indices s.marks) _ c.loop-self.invariant.is c.in-Some.ensures c.remove_lowest_bit-self-inside.ensures

pub returns-in-Some-clause-steps : goal.returns-in-Some-clause-steps
returns-in-Some-clause-steps g c = grind (arith, common_steps, takes_index)

pub returns-then-self-WIDTH-clause-steps : goal.returns-then-self-WIDTH-clause-steps
returns-then-self-WIDTH-clause-steps g c = grind (arith, common_steps, ends_last)

pub returns-clause-steps : goal.returns-clause-steps
returns-clause-steps g c = grind (arith, common_steps, ends_full, walk_from)

pub read-requires : goal.read-requires
read-requires g c = grind (arith, common_steps, width_small g.G.GroupKind.kind g.met.G.GroupKind.lawful)

pub loop-self-preserved : goal.loop-self-preserved
loop-self-preserved g c =
    let s = c.loop-self.self-inside in
    let t = c.if-self-WIDTH.false in
    let u = c.loop-self-test.true in
    let w : c.WIDTH.result ≡ g.G.GroupKind.kind.width = c.WIDTH.ensures ∙ g.met.G.GroupKind.width in
    let v : c.WIDTH-in-loop-self.result ≡ g.G.GroupKind.kind.width = c.WIDTH-in-loop-self.ensures ∙ g.met.G.GroupKind.width in
    let inv = c.loop-self.invariant in
    let shows = g.G.GroupKind.controls c.read.result in
    let indices = g.G.Mask.Marks.indices c.match_full-self-inside.result in
    let base = s.base + c.WIDTH-in-loop-self.result in
    let e = left_none s.controls.now s.cap s.base g.G.GroupKind.kind.width (g.G.Mask.Marks.indices s.marks) c.in_default.ensures in
    let f = left_group s.controls.now shows s.cap base g.G.GroupKind.kind.width indices c.loop-self.invariant.is.count (omega arith) c.read.ensures c.match_full-self-inside.ensures in
    let k = ap (λ z. full_from s.controls.now s.cap (s.base + z)) (sym v) in
    record {
      is = walk_of s.controls.now s.cap base g.G.GroupKind.kind.width indices (group_walk s.controls.now shows s.cap base g.G.GroupKind.kind.width indices c.loop-self.invariant.is.count (omega arith) c.read.ensures c.match_full-self-inside.ensures);
      value = inv.value ∙ e ∙ k ∙ sym f;
    }

pub returns-in-Some-clause-goes : goal.returns-in-Some-clause-goes
returns-in-Some-clause-goes g c = grind (arith, common_steps, takes_index)
