use Rattle.std.proofs.Common.{◌∙◌, ap, sym, arith}
use Rattle.std.proofs.lemmas.Grind.{common_steps}
use Rattle.std.specs.Int.{to_le_bytes, w32}
use Rattle.rkyv_container.proofs.HeaderChecks.{flags_fail, header_from}
use Rattle.rkyv_container.proofs.header.read_fields.Goals as goal

pub returns-in_err-checksum : goal.returns-in_err-checksum
returns-in_err-checksum c = grind (arith, common_steps, flags_fail c.args.bytes.now c.in_ok-contents.contents c.in_err-checksum.field-0.0 c.in_ok-check_start.ensures c.in_ok-contents.ensures c.in_err-checksum.ensures)

pub returns : goal.returns
returns c =
    header_from _ c.args.bytes.now (λ i. omega (arith, c.type_inv.bytes i)) c.in_ok-check_start.ensures
    c.in_ok-contents.ensures c.in_ok-checksum.ensures c.read_u64.ensures.bytes
    c.read_u64.type_inv
    (ap (to_le_bytes w32) (sym c.if-reserved-ne0.false) ∙ c.read_u32-reserved.ensures.bytes)
