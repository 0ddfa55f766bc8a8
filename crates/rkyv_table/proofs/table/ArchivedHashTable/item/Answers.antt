use Rattle.std.proofs.lemmas.Grind.{common_steps}
use Rattle.std.proofs.Common.{◌≡◌, ◌∙◌, ◌<◌, ◌-◌, ◌*◌, ◌+◌, ap, arith}
use Rattle.rkyv_table.specs.{item_at}
use Rattle.rkyv_table.proofs.ValidTable.{item_before, item_viewable}
use Rattle.rkyv_table.proofs.table.ArchivedHashTable.item.Goals as goal

pub overflow_mul-pos : goal.overflow_mul-pos
overflow_mul-pos g c =
    let t = c.args.self.view in
    grind (arith, common_steps, item_before g.W.Word.word g.T.HasSpec.spec g.T.HasSpec.laws t.archive.now t.pos c.args.self.valid c.args.bucket c.requires.0)

pub overflow_sub-pos : goal.overflow_sub-pos
overflow_sub-pos g c = grind (arith, item_before)

pub new-requires : goal.new-requires
new-requires g c =
    let t = c.args.self.view in
    grind (arith, common_steps, item_viewable g.W.Word.word g.T.HasSpec.spec g.T.HasSpec.laws t.archive.now t.pos c.args.self.valid c.args.bucket c.requires)

pub returns : goal.returns
returns g c =
    let s = g.T.HasSpec.spec in
    let t = c.args.self.view in
    let h = c.args.self.decoded in
    let some : 0 < c.args.self.header.cap = omega (arith, h.cap, c.requires.0) in
    let v = item_viewable g.W.Word.word s g.T.HasSpec.laws t.archive.now t.pos c.args.self.valid c.args.bucket c.requires in
    let pos : c.new.result.pos ≡ item_at g.W.Word.word s.size t.archive.now t.pos c.args.bucket =
    c.new.ensures.1 ∙ ap (λ n. c.args.self.header.controls_pos - (c.args.bucket + 1) * n) c.size.ensures ∙ ap (λ z. z - (c.args.bucket + 1) * s.size) (h.controls_pos some) in
    let archive : c.new.result.archive ≡ t.archive = c.new.ensures.0 ∙ c.bytes.ensures in
    record {
      archive = archive;
      viewable = rw (archive, pos) v;
      walked = c.requires;
      pos = pos;
    }
