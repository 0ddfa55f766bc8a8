use Rattle.std.proofs.Common.{◌∙◌, refl, ap, arith, Some, None}
use Rattle.std.proofs.lemmas.Grind.{common_steps}
use Rattle.rkyv_scan.specs.{generic_kind}
use Rattle.rkyv_table.proofs.Bare.{item_at_found, looks_up_none, looks_up_some}
use Rattle.rkyv_table.proofs.table.ArchivedHashTable.found_with.Goals as goal

pub lend_seal-requires : goal.lend_seal-requires
lend_seal-requires g c = grind (arith, common_steps, item_at_found)

pub returns : goal.returns
returns g c =
    let bytes = ap (λ v. v.archive.now) c.of-table.ensures.view ∙ ap (λ v. v.now) c.new.ensures.0 in
    let pos = ap (λ v. v.pos) c.of-table.ensures.view ∙ c.new.ensures.1 in
    let e = c.in_ok-item_pos.ensures in
    record {
      found = Some c.in_ok-item_pos.item_pos;
      looks = looks_up_some c.args.archive.now c.args.pos c.of-table.result bytes pos _ generic_kind c.args.hash c.in_ok-item_pos.item_pos e.finds e.first e.accepted;
      item = item_at_found c.args.archive.now c.args.pos c.of-table.result bytes pos g.T.HasSpec.laws c.requires.table c.in_ok-item_pos.item_pos e.walked;
      writes = (c.lend_seal.result, refl, c.lend_seal.ensures);
    }

pub returns-in_err-item_pos : goal.returns-in_err-item_pos
returns-in_err-item_pos g c =
    let bytes = ap (λ v. v.archive.now) c.of-table.ensures.view ∙ ap (λ v. v.now) c.new.ensures.0 in
    let pos = ap (λ v. v.pos) c.of-table.ensures.view ∙ c.new.ensures.1 in
    record {
      found = None;
      looks = looks_up_none c.args.archive.now c.args.pos c.of-table.result bytes pos _ generic_kind c.args.hash c.in_err-item_pos.ensures.finds c.in_err-item_pos.ensures.first;
      item = tt;
      writes = (c.from_residual.ensures, refl);
    }
