use Rattle.std.proofs.Common.{arith, inr, subst, sym, ℕ}
use Rattle.std.proofs.lemmas.Result.{err_from_is_err_and}
use Rattle.rkyv_base.specs.{PairRepresents}
use Rattle.rkyv_keys.specs.{DeserializeMembers, entry_deserialize_fails}
use Rattle.rkyv_index.specs.{index_bytes, key_pos}
use Rattle.rkyv_index.proofs.ListSteps.{above_zero, one_pushed}
use Rattle.rkyv_index.proofs.map.ArchivedIndexMap.deserialize_pairs.Goals as goal

pub returns-in_err-list : goal.returns-in_err-list
returns-in_err-list g c = grind (arith, err_from_is_err_and, above_zero)

pub loop-index-preserved : goal.loop-index-preserved
loop-index-preserved g c =
    let m = c.args.self in
    let Related : ℕ → g.row.A.Denot × g.row.B.Denot → Type 0 = λ i pair.
    PairRepresents g.K.HasSpec.spec g.V.HasSpec.spec g.K.Represents.represents g.V.Represents.represents (index_bytes m) (key_pos m i) pair in
    let inv = c.loop-index.invariant in
    let more = one_pushed Related c.loop-index.list.items c.push_reserved.new.self.items c.in_ok-pair.pair c.loop-index.index c.push_reserved.ensures.items inv.0 inv.1 c.in_ok-pair.ensures in
    (more.0, more.1, rw c.push_reserved.ensures.capacity inv.2)

pub returns-in_err-pair : goal.returns-in_err-pair
returns-in_err-pair g c =
    let p = err_from_is_err_and c.from_residual-in_err-pair.result c.from_residual-in_err-pair.ensures.1 in
    let m = c.args.self in
    let inv = c.loop-index.invariant in
    let k : DeserializeMembers g.row.A.Denot = record { spec = g.K.HasSpec.spec; laws = g.K.HasSpec.laws; represents = g.K.Represents.represents; deserialize_fails = g.K.Deserialize.deserialize_fails } in
    let v : DeserializeMembers g.row.B.Denot = record { spec = g.V.HasSpec.spec; laws = g.V.HasSpec.laws; represents = g.V.Represents.represents; deserialize_fails = g.V.Deserialize.deserialize_fails } in
    let deserialize_fails = entry_deserialize_fails k v (index_bytes m) in
    let at = subst (λ n. deserialize_fails (key_pos m n) c.in_err-pair.field-0.0) (sym inv.0) c.in_err-pair.ensures in
    rw (p.1, p.2) (inr (c.loop-index.list.items, omega (arith, inv.0), inv.1, at))
