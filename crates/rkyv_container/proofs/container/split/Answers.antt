use Rattle.std.proofs.Common.{refl, rules, arith}
use Rattle.std.proofs.lemmas.Grind.{common_steps}
use Rattle.rkyv_container.proofs.HeaderBytes.{header_length}
use Rattle.rkyv_container.proofs.container.split.Goals as goal

pub returns-in_err-header : goal.returns-in_err-header
returns-in_err-header c =
    let f = (c.in_err-header.ensures.err c.in_err-header.field-0.0).0 refl in
    search (rules, f)

pub split_at-requires : goal.split_at-requires
split_at-requires c = grind (arith, common_steps, header_length c.in_ok-header.header c.args.bytes.now ((c.in_ok-header.ensures.ok c.in_ok-header.header).0 refl))

pub returns : goal.returns
returns c =
    ((c.in_ok-header.ensures.ok c.in_ok-header.header).0 refl, c.split_at.ensures.back)
