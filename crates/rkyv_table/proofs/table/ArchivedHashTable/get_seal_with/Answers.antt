use Rattle.std.proofs.Common.{None, arith}
use Rattle.rkyv_table.proofs.SealedLookup.{item_seal, read_there, seals_first, seals_found}
use Rattle.rkyv_table.proofs.table.ArchivedHashTable.get_seal_with.Goals as goal

pub returns-clause-walked : goal.returns-clause-walked
returns-clause-walked g c =
    let read = read_there c.args.this c.of.result c.as_view.result c.of.ensures.view c.as_view.ensures.bytes c.as_view.ensures.pos in
    item_seal g.T.HasSpec.laws c.args.this c.of.result read c.requires.table c.in_ok-pos.pos c.seal_at.result c.in_ok-pos.ensures.walked c.seal_at.ensures.at

pub returns-clause-finds : goal.returns-clause-finds
returns-clause-finds g c = grind (arith, read_there, seals_found)

pub returns-clause-first : goal.returns-clause-first
returns-clause-first g c = grind (arith, read_there, seals_first)

pub returns-in_err-pos-clause-finds : goal.returns-in_err-pos-clause-finds
returns-in_err-pos-clause-finds g c = grind (arith, read_there, seals_found)

pub returns-in_err-pos-clause-first : goal.returns-in_err-pos-clause-first
returns-in_err-pos-clause-first g c =
    let read = read_there c.args.this c.of.result c.as_view.result c.of.ensures.view c.as_view.ensures.bytes c.as_view.ensures.pos in
    rw c.from_residual.ensures (seals_first g.T.HasSpec.laws c.args.this c.of.result read c.requires.table _ c.args.hash None c.in_err-pos.ensures.first)
