use Rattle.std.proofs.Common.{◌%◌, eqb, ltb, sym, ◌∙◌}
use Rattle.std.proofs.lemmas.Bool.{and_from, and_parts, eq-eqb, eqb-true, lt-ltb, ltb-true}
use Rattle.rkyv_table.specs.{probe_capacity, start, strides}
use Rattle.rkyv_table.proofs.Coverage.{count_strides, distinct_strides, has_stride}
use Rattle.rkyv_table.proofs.Lists.{contains_member, member_contains}
use Rattle.rkyv_table.proofs.controls.laws.strides_cover.Goals as goal

pub returns : goal.returns
returns c = λ hash cap some. record {
  members = λ p. (
    λ here.
        let t = and_parts (ltb p (probe_capacity cap)) (eqb (p % 16) (start hash cap % 16)) (sym (has_stride hash cap p some) ∙ contains_member p (strides hash cap) here) in
        (ltb-true p (probe_capacity cap) t.0, eqb-true (p % 16) (start hash cap % 16) t.1),
    λ is. member_contains p (strides hash cap) (has_stride hash cap p some ∙ and_from (ltb p (probe_capacity cap)) (eqb (p % 16) (start hash cap % 16)) (lt-ltb p (probe_capacity cap) is.0) (eq-eqb (p % 16) (start hash cap % 16) is.1)),
  );
  once = distinct_strides hash cap some;
  count = count_strides hash cap some;
}
