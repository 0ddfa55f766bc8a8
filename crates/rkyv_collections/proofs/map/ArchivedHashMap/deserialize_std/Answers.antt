use Rattle.std.proofs.Common.{refl, inl, inr, subst, ◌∙◌, ℕ, List, arith}
use Rattle.std.proofs.lemmas.Grind.{common_steps}
use Rattle.std.specs.Borrow.{Bor}
use Rattle.std.specs.HashMap.{get, keys}
use Rattle.std.proofs.lemmas.Result.{err_from_is_err_and}
use Rattle.rkyv_base.specs.{PairRepresents}
use Rattle.rkyv_keys.specs.{DeserializeMembers, entry_deserialize_fails}
use Rattle.rkyv_collections.specs.{map_archive, map_len, map_pos}
use Rattle.rkyv_collections.proofs.StdReading.{none_left, walks_fail, walks_first, walks_next, walks_some}
use Rattle.rkyv_collections.proofs.map.ArchivedHashMap.deserialize_std.Goals as goal

pub loop-key-init : goal.loop-key-init
loop-key-init g c = grind (arith, none_left, walks_first)

pub loop-key-preserved : goal.loop-key-preserved
loop-key-preserved g c =
    let on = c.loop-key.invariant in
    let step = c.in-Some.ensures.steps in
    let made = c.in_ok-insert_read.ensures in
    let there = subst (λ (a : Bor (List ℕ)). PairRepresents g.K.HasSpec.spec g.V.HasSpec.spec g.K.Represents.represents g.V.Represents.represents a.now c.in-Some.key.pos made.0) (step.1.at.0 ∙ on.0.same_archive) made.1 in (
      walks_next g.W.Word.word g.K.HasSpec.spec g.V.HasSpec.spec g.K.Represents.represents g.V.Represents.represents g.A.PartialEq.eq (map_archive c.args.self) (map_pos c.args.self)
          c.loop-key.key-iterator c.next.new.self c.in-Some.key.pos (get g.A.PartialEq.eq c.loop-key.map) (keys c.loop-key.map) step.0 on.0
          (get g.A.PartialEq.eq c.insert_read.new.map) (keys c.insert_read.new.map) made.0.0 made.0.1 there made.2.0 made.3,
      made.4,
      made.5 ∙ on.2,
    )

pub returns-in_err-insert_read : goal.returns-in_err-insert_read
returns-in_err-insert_read g c =
    let on = c.loop-key.invariant in
    let step = c.in-Some.ensures.steps in
    let k : DeserializeMembers g.row.A.Denot = record { spec = g.K.HasSpec.spec; laws = g.K.HasSpec.laws; represents = g.K.Represents.represents; deserialize_fails = g.K.Deserialize.deserialize_fails } in
    let v : DeserializeMembers g.row.B.Denot = record { spec = g.V.HasSpec.spec; laws = g.V.HasSpec.laws; represents = g.V.Represents.represents; deserialize_fails = g.V.Deserialize.deserialize_fails } in
    let fails = entry_deserialize_fails k v in
    let error = c.in_err-insert_read.field-0.0 in
    let p = err_from_is_err_and c.from_residual-in_err-insert_read.result c.from_residual-in_err-insert_read.ensures.1 in
    rw (p.1, p.2) (elim c.in_err-insert_read.ensures [
      | inl memory ↦ inl (
        memory,
        walks_some g.W.Word.word g.K.HasSpec.spec g.V.HasSpec.spec g.K.Represents.represents g.V.Represents.represents g.A.PartialEq.eq (map_archive c.args.self) (map_pos c.args.self)
            c.loop-key.key-iterator c.next.new.self c.in-Some.key.pos (get g.A.PartialEq.eq c.loop-key.map) (keys c.loop-key.map) step.0 on.0 c.iter-key-items.result.positions (map_len c.args.self) c.iter-key-items.ensures.positions c.iter-key-items.ensures.count,
      )
      | inr part ↦ inr (walks_fail g.W.Word.word g.K.HasSpec.spec g.V.HasSpec.spec g.K.Represents.represents g.V.Represents.represents g.A.PartialEq.eq (map_archive c.args.self) (map_pos c.args.self)
          c.loop-key.key-iterator c.next.new.self c.in-Some.key.pos (get g.A.PartialEq.eq c.loop-key.map) (keys c.loop-key.map) step.0 on.0 fails error
          (subst (λ (a : Bor (List ℕ)). fails a.now c.in-Some.key.pos error) (step.1.at.0 ∙ on.0.same_archive) part))
    ])

pub returns-in_err-reserve : goal.returns-in_err-reserve
returns-in_err-reserve g c =
    let p = err_from_is_err_and c.from_residual.result c.from_residual.ensures.1 in
    rw (p.1, p.2) (inl (refl, grind (arith, common_steps)))
