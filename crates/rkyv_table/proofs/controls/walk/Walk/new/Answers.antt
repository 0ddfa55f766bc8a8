use Rattle.std.proofs.Common.{arith}
use Rattle.std.proofs.lemmas.Grind.{common_steps}
use Rattle.rkyv_table.proofs.Groups.{width_small}
use Rattle.rkyv_table.proofs.Walks.{group_walk, left_group, walk_of, whole_walk}
use Rattle.rkyv_table.proofs.controls.walk.Walk.new.Goals as goal

pub read-requires : goal.read-requires
read-requires g c = grind (arith, common_steps, width_small g.G.GroupKind.kind g.met.G.GroupKind.lawful)

pub invariant_of-result : goal.invariant_of-result
invariant_of-result g c =
    walk_of c.args.controls.now c.args.cap 0 g.G.GroupKind.kind.width (g.G.Mask.Marks.indices c.match_full.result)
    (group_walk c.args.controls.now (g.G.GroupKind.controls c.read.result) c.args.cap 0 g.G.GroupKind.kind.width (g.G.Mask.Marks.indices c.match_full.result) c.requires.count (omega arith) c.read.ensures c.match_full.ensures)

pub returns : goal.returns
returns g c = grind (arith, common_steps, left_group, whole_walk)
