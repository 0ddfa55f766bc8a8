use Rattle.std.proofs.Common.{arith, ◌≤◌}
use Rattle.std.proofs.lemmas.Grind.{common_steps}
use Rattle.std.proofs.lemmas.Result.{err_from_is_err_and}
use Rattle.rkyv_base.specs.{whole_size}
use Rattle.rkyv_base.proofs.PairWriting.{key_fails, pair_serialized, value_fails}
use Rattle.rkyv_base.proofs.pairs.serialize_entry.Goals as goal

pub returns-in_err-key : goal.returns-in_err-key
returns-in_err-key g c = grind (arith, common_steps, err_from_is_err_and, key_fails)

pub returns-in_err-value : goal.returns-in_err-value
returns-in_err-value g c =
    let x = c.in_ok-key.ensures in
    let small : whole_size g.A.Archived.HasSpec.spec g.B.Archived.HasSpec.spec ≤ 1073741824 = omega arith in
    let p = err_from_is_err_and c.from_residual-in_err-value.result c.from_residual-in_err-value.ensures.1 in
    rw (p.1, p.2) (value_fails g.W.Width.LIMIT g.A.Archived.HasSpec.spec g.B.Archived.HasSpec.spec g.A.Archive.format g.B.Archive.format
    (c.args.key.now, c.args.value.now) _ _ _ x.0 c.in_ok-key.key c.in_err-value.field-0.0 small x.1 x.2 x.3 c.in_err-value.ensures)

pub returns : goal.returns
returns g c =
    let small : whole_size g.A.Archived.HasSpec.spec g.B.Archived.HasSpec.spec ≤ 1073741824 = omega arith in
    pair_serialized g.W.Width.LIMIT g.A.Archived.HasSpec.spec g.B.Archived.HasSpec.spec g.A.Archive.format g.B.Archive.format
    (c.args.key.now, c.args.value.now) _ _ _ (record { key = c.in_ok-key.key; value = c.in_ok-value.value }) small c.in_ok-key.ensures c.in_ok-value.ensures
